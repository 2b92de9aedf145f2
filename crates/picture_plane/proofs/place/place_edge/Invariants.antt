use Rattle.std.proofs.Common.{◌*◌}
use Rattle.picture_plane.specs.Views.{as_size}
use Rattle.picture_plane.specs.inner.Placing.{IsBlockPlaced}
use Rattle.picture_plane.proofs.place.place_edge.Given as goal

abbrev pub invariant-loop-r : goal.invariant-loop-r
invariant-loop-r l = IsBlockPlaced (8 * l.r) (as_size l.size) l.field l.plane l.line l.column l.block l.fn.out l.out
