use Rattle.take_core.specs.inner.Flags.{Cleared}
use Rattle.take_core.proofs.slice_flags.clear.Given as goal

abbrev pub invariant-loop-index : goal.invariant-loop-index
invariant-loop-index l = Cleared l.frame l.index l.fn.marks l.marks
