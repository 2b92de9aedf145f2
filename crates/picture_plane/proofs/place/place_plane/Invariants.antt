use Rattle.picture_plane.specs.Views.{as_size}
use Rattle.picture_plane.specs.inner.Placing.{AreBlocksPlaced}
use Rattle.picture_plane.proofs.place.place_plane.Given as goal

abbrev pub invariant-loop-b : goal.invariant-loop-b
invariant-loop-b l = AreBlocksPlaced l.b (as_size l.size) l.name l.plane l.samples l.fn.out l.out
