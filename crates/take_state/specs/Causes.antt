-- When a call of a take may answer a fault of its disk (own). docs/ARCHITECTURE.md, "The state of a take".
use Rattle.std.specs.Prelude.{◌≡◌, ◌≤◌, ℕ, Result, OnOk, IfErr}
use Rattle.rec_bytes.specs.Faults.{Rose}
use Rattle.take_state.specs.declared.fault.OpenCause.{OpenCause}
use Rattle.take_state.specs.declared.fault.OpenCause.TheVariants as opening
use Rattle.take_state.specs.declared.fault.OpenFault.{OpenFault}
use Rattle.take_state.specs.declared.fault.PublishFault.{PublishFault}
use Rattle.take_state.specs.declared.fault.PublishFault.TheVariants as publishing

-- the count of faults rose, and this is it
abbrev pub IsFault : ℕ → ℕ → ℕ → Type 0
IsFault before now faults = Rose before now × (faults ≡ now)

-- the count never falls, a fault is the count that rose, and a success leaves it
pub record HasFaultCause {T : Type 0} (before now : ℕ) (result : Result T ℕ) : Type 0 where
  pub later : before ≤ now
  pub failed : IfErr result (IsFault before now)
  pub kept : OnOk result (now ≡ before)

-- a cause that is a fault of the disk is the count that rose; the others leave it
abbrev pub IsOpenCause : ℕ → ℕ → OpenCause → Type 0
IsOpenCause before now (opening.TakeExists len area) = now ≡ before
IsOpenCause before now opening.Memory = now ≡ before
IsOpenCause before now (opening.Disk faults) = IsFault before now faults

-- so of a publish
abbrev pub IsPublishCause : ℕ → ℕ → PublishFault → Type 0
IsPublishCause before now (publishing.Stopped faults) = now ≡ before
IsPublishCause before now (publishing.Ended count) = now ≡ before
IsPublishCause before now (publishing.OutOfTurn want got) = now ≡ before
IsPublishCause before now (publishing.TakeFull most) = now ≡ before
IsPublishCause before now (publishing.Lagging frames durable) = now ≡ before
IsPublishCause before now (publishing.Disk faults) = IsFault before now faults

-- the count never falls, rises in a publish that answers a fault of the disk, which is the count, and in no other
pub record HasPublishCause {T : Type 0} (before now : ℕ) (result : Result T PublishFault) : Type 0 where
  pub later : before ≤ now
  pub failed : IfErr result (IsPublishCause before now)
  pub kept : OnOk result (now ≡ before)

-- a take that isn't opened has its cause in the disk, by the count of the disk that is handed back
abbrev pub HasOpenCause : {T D : Type 0} → (D → ℕ) → ℕ → Result T (OpenFault D) → Type 0
HasOpenCause fault_count before result = IfErr result (λ fault. IsOpenCause before (fault_count fault.disk) fault.cause)
