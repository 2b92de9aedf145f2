use Rattle.std.proofs.Common.{◌≡◌}
use Rattle.rec_bytes.specs.Views.{view}
use Rattle.slice_workers.specs.inner.Hands.{HavePieces}
use Rattle.slice_workers.proofs.stock.take_slice.Given as goal

abbrev pub invariant-hands : goal.invariant-hands
invariant-hands l = record { have : HavePieces (view l.config) l.picture l.hands; same : l.out ≡ l.fn.out }
