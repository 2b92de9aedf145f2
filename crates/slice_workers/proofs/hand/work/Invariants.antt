use Rattle.rec_bytes.specs.Views.{view}
use Rattle.slice_workers.specs.inner.Hands.{HasPieces}
use Rattle.slice_workers.proofs.hand.work.Given as goal

abbrev pub invariant-taken : goal.invariant-taken
invariant-taken l = HasPieces (view l.config) l.picture l.hand
