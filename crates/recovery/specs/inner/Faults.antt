-- The answer to a fault of the walk over an essence.
use Rattle.essence_walk.specs.declared.fault.WalkFault.{WalkFault}
use Rattle.essence_walk.specs.declared.fault.WalkFault.TheVariants as walk
use Rattle.recovery.specs.declared.answer.RecoverFault.{RecoverFault}
use Rattle.recovery.specs.declared.answer.RecoverFault.TheVariants.{Memory, Damaged, DiskFault}

-- the same fault of a recovery
abbrev pub walk_answer : WalkFault → RecoverFault
walk_answer walk.Memory = Memory
walk_answer (walk.DiskFault faults) = DiskFault faults
walk_answer (walk.Damaged at other) = Damaged at other
