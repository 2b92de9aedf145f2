use Rattle.std.proofs.Common.{◌≡◌, ◌+◌, length, take}
use Rattle.std.specs.List.{flat_map}
use Rattle.rec_bytes.specs.Places.{with_bytes}
use Rattle.mxf_metadata.specs.inner.Entries.{tag_bytes}
use Rattle.mxf_metadata.proofs.primer.put_entries.Given as goal

abbrev pub invariant-tags : goal.invariant-tags
invariant-tags l = record {
  end : l.end ≡ l.at + length (flat_map tag_bytes (take l.tag-index l.tags));
  written : l.out ≡ with_bytes l.fn.out l.at (flat_map tag_bytes (take l.tag-index l.tags));
}
