-- The parts of a command that looks at a take: it reads its disk alone, and then writes to its sink alone.
use Rattle.std.specs.Prelude.{◌≡◌, ℕ, List, [], Option, Some, Result, Ok, Err}
use Rattle.rec_bytes.specs.Faults.{Rose}
use Rattle.rec_bytes.specs.declared.status.Status.{Status}
use Rattle.run_parts.specs.Statuses.{answer}
use Rattle.take_disk.specs.Held.{Disk as Holds}
use Rattle.take_commands.specs.Answers.{take_answer}
use Rattle.take_commands.specs.Views.{IsCutShort}
use Rattle.take_commands.specs.declared.fault.TakeFault.{TakeFault}
use Rattle.take_commands.specs.declared.fault.TakeFault.TheVariants.{Memory, Disk, Sink, NotOp1a, Past, Refused, NoTake, Damaged}

-- where the disk tells what its essence reads, this holds of it
abbrev pub OfReads : Option Holds → (List ℕ → Type 0) → Type 0
OfReads told P = (disk : Holds) → told ≡ Some disk → P disk.essence.reads

-- these bytes are what is to be written, with the answer that all was done
abbrev pub IsToWrite : (List ℕ → List ℕ → Status → Type 0) → Option Holds → List ℕ → Type 0
IsToWrite Said told piece = OfReads told (λ bytes. Said bytes piece (answer 0 0 0 0))

-- nothing is to be written, and this fault is the answer, unless it is of a device or of memory
abbrev pub IsToAnswer : (List ℕ → List ℕ → Status → Type 0) → Option Holds → TakeFault → Type 0
IsToAnswer Said told fault = OfReads told (λ bytes. ¬ IsCutShort (take_answer (Err fault)) → Said bytes [] (take_answer (Err fault)))

-- why a part that calls the disk alone ends: the disk's count of faults rose to the one that is named, or it stays
abbrev pub IsDiskFault : ℕ → ℕ → TakeFault → Type 0
IsDiskFault before now Memory = now ≡ before
IsDiskFault before now (Disk count) = (count ≡ now) × Rose before now
IsDiskFault before now (Sink count) = ⊥
IsDiskFault before now (NotOp1a clause at) = now ≡ before
IsDiskFault before now (Past count number) = now ≡ before
IsDiskFault before now (Refused number fault) = now ≡ before
IsDiskFault before now (NoTake at area) = now ≡ before
IsDiskFault before now (Damaged at area) = now ≡ before

-- a part that calls the disk alone: its count of faults stays, or there is a fault that says why it ended
abbrev pub HasDiskCause : {T : Type 0} → ℕ → ℕ → Result T TakeFault → Type 0
HasDiskCause before now (Ok value) = now ≡ before
HasDiskCause before now (Err fault) = IsDiskFault before now fault

-- a part that only writes: the sink's count of faults rose to the one that the fault names, or all was written
abbrev pub HasSinkCause : ℕ → ℕ → Result (Unit {0}) TakeFault → Type 0
HasSinkCause before now (Ok done) = now ≡ before
HasSinkCause before now (Err Memory) = ⊥
HasSinkCause before now (Err (Disk count)) = ⊥
HasSinkCause before now (Err (Sink count)) = (count ≡ now) × Rose before now
HasSinkCause before now (Err (NotOp1a clause at)) = ⊥
HasSinkCause before now (Err (Past count number)) = ⊥
HasSinkCause before now (Err (Refused number fault)) = ⊥
HasSinkCause before now (Err (NoTake at area)) = ⊥
HasSinkCause before now (Err (Damaged at area)) = ⊥
