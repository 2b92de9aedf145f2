use Rattle.rec_bytes.specs.Views.{view}
use Rattle.slice_workers.specs.inner.Hands.{AreFor}
use Rattle.slice_workers.proofs.encoder.hands_of.Given as goal

abbrev pub invariant-hands : goal.invariant-hands
invariant-hands l = AreFor (view l.cfg) l.hands.items
