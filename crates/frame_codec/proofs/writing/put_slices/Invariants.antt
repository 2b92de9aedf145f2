use Rattle.std.proofs.Common.{◌≡◌, ◌≤◌, ◌+◌}
use Rattle.rec_bytes.specs.Views.{view}
use Rattle.frame_codec.specs.inner.Writing.{slices_room, AreSlicesPut}
use Rattle.frame_codec.proofs.writing.put_slices.Given as goal

abbrev pub invariant-slices : goal.invariant-slices
invariant-slices g l = record {
  kept : g.S.SliceSource.config l.source ≡ view l.config;
  held : g.S.SliceSource.holds l.source l.picture;
  room : l.at ≤ l.start + slices_room (view l.config) l.n;
  put : AreSlicesPut (view l.config) l.picture l.number l.n l.start l.at l.sizes l.fn.out l.out;
}
