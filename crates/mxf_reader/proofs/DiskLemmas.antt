-- What is told of a disk.
use Rattle.std.proofs.Common.{◌≡◌, Option, Some, subst}
use Rattle.take_disk.specs.Held.{Disk}
use Rattle.take_disk.specs.Calls.{IfTold}

pub told_is : (o : Option Disk) (P : Disk → Type 0) (told : Disk) → o ≡ Some told → IfTold o P → P told
told_is o P told e h = subst (λ (x : Option Disk). IfTold x P) e h
