-- Why calls that read a take's file fail (own). docs/FORMATS.md, "Statuses".
use Rattle.std.specs.Prelude.{◌≡◌, ◌≤◌, ◌<◌, ℕ, Result, Ok, Err}
use Rattle.rec_bytes.specs.Faults.{Rose}
use Rattle.mxf_reader.specs.declared.fault.CheckFault.{CheckFault}
use Rattle.mxf_reader.specs.declared.fault.CheckFault.TheVariants.{Memory, DiskFault, NotOp1a}
use Rattle.mxf_reader.specs.declared.fault.UnitFault.{UnitFault}
use Rattle.mxf_reader.specs.declared.fault.UnitFault.TheVariants.{Memory as NoMemory, DiskFault as NotRead, Past}

-- why a call on a disk that judges nothing fails: want of memory, or a disk whose count of faults rose to this; else the
-- count stays
abbrev pub HasReadCause : {T : Type 0} → ℕ → ℕ → Result T CheckFault → Type 0
HasReadCause before now (Ok value) = now ≡ before
HasReadCause before now (Err Memory) = now ≡ before
HasReadCause before now (Err (DiskFault faults)) = (faults ≡ now) × Rose before now
HasReadCause before now (Err (NotOp1a clause at)) = ⊥

-- the same of a call that judges the file
abbrev pub HasCheckCause : {T : Type 0} → ℕ → ℕ → Result T CheckFault → Type 0
HasCheckCause before now (Ok value) = now ≡ before
HasCheckCause before now (Err Memory) = now ≡ before
HasCheckCause before now (Err (DiskFault faults)) = (faults ≡ now) × Rose before now
HasCheckCause before now (Err (NotOp1a clause at)) = now ≡ before

-- the same of a call that reads the n-th of so many units: it answers that there are no more exactly where that is so
abbrev pub HasUnitCause : {T : Type 0} → ℕ → ℕ → ℕ → ℕ → Result T UnitFault → Type 0
HasUnitCause count n before now (Ok unit) = (n < count) × (now ≡ before)
HasUnitCause count n before now (Err NoMemory) = (n < count) × (now ≡ before)
HasUnitCause count n before now (Err (NotRead faults)) = (n < count) × (faults ≡ now) × Rose before now
HasUnitCause count n before now (Err (Past units)) = (units ≡ count) × (count ≤ n) × (now ≡ before)
