use Rattle.take_core.specs.inner.Flags.{AllSet}
use Rattle.take_core.proofs.slice_flags.are_set.Given as goal

abbrev pub invariant-loop-index : goal.invariant-loop-index
invariant-loop-index l = AllSet l.marks l.index l.frame
