use Rattle.picture_plane.specs.inner.Placing.{AreRowsPlaced}
use Rattle.picture_plane.proofs.place.place_rows.Given as goal

abbrev pub invariant-loop-r : goal.invariant-loop-r
invariant-loop-r l = AreRowsPlaced l.r l.start l.step l.block l.fn.out l.out
