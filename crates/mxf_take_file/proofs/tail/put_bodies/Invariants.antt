use Rattle.std.proofs.Common.{◌≡◌, ◌+◌, ◌*◌}
use Rattle.std.specs.List.{flat_map}
use Rattle.rec_bytes.specs.Places.{with_bytes}
use Rattle.mxf_partitions.specs.RandomIndex.{entry_bytes}
use Rattle.mxf_partitions.specs.declared.random_index.TheConstants.{PACK_ENTRY_LEN}
use Rattle.mxf_take_file.specs.inner.Kept.{extents_kept}
use Rattle.mxf_take_file.specs.Packs.{body_entries}
use Rattle.mxf_take_file.proofs.tail.put_bodies.Given as goal

abbrev pub invariant-bodies : goal.invariant-bodies
invariant-bodies l = record {
  behind : l.end ≡ l.at + PACK_ENTRY_LEN * l.k;
  written : l.out ≡ with_bytes l.fn.out l.at (flat_map entry_bytes (body_entries l.part (extents_kept l.places) l.k));
}
