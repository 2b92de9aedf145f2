use Rattle.std.proofs.Common.{◌≤◌, ◌+◌, ◌*◌}
use Rattle.slice_desk.specs.Slices.{slices_in_picture}
use Rattle.slice_desk.specs.inner.Joins.{AreSlicesPut}
use Rattle.slice_desk.specs.inner.Rooms.{slices_room}
use Rattle.slice_desk.proofs.frame.put_slices.Given as goal

-- the slices so far are written
abbrev pub invariant-slices : goal.invariant-slices
invariant-slices g l = record {
  room : l.at ≤ l.start + slices_room g.P.DeskName.config l.n;
  put : AreSlicesPut g.N.Feed.bytes g.P.DeskName.config l.frame (l.number * slices_in_picture g.P.DeskName.config) l.n l.start l.at l.sizes l.fn.out l.out;
}
