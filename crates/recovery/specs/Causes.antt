-- Why a recovery fails (own). docs/formats/commits.md, "Refusals".
use Rattle.std.specs.Prelude.{◌≡◌, ℕ, Result, Ok, Err}
use Rattle.rec_bytes.specs.Faults.{Rose}
use Rattle.recovery.specs.declared.answer.RecoverFault.{RecoverFault}
use Rattle.recovery.specs.declared.answer.RecoverFault.TheVariants.{Memory, NoTake, Damaged, DiskFault}

-- a disk whose count of faults rose to this, or else the count stays
abbrev pub HasRecoverCause : {T : Type 0} → ℕ → ℕ → Result T RecoverFault → Type 0
HasRecoverCause before now (Ok value) = now ≡ before
HasRecoverCause before now (Err Memory) = now ≡ before
HasRecoverCause before now (Err (NoTake at other)) = now ≡ before
HasRecoverCause before now (Err (Damaged at other)) = now ≡ before
HasRecoverCause before now (Err (DiskFault at)) = (at ≡ now) × Rose before now
