use Rattle.slice_desk.specs.Desks.{AreIn}
use Rattle.slice_desk.proofs.desk.Desk.complete.Given as goal

-- the slices so far are in
abbrev pub invariant-loop-index : goal.invariant-loop-index
invariant-loop-index g l = record { all : AreIn l.self.kept l.self.lowest l.index }
