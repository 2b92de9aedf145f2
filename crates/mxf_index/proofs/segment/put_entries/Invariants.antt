use Rattle.std.proofs.Common.{◌≡◌, ◌+◌, ◌*◌, take}
use Rattle.mxf_index.specs.declared.tags.TheConstants.{ENTRY_SIZE}
use Rattle.std.specs.List.{flat_map}
use Rattle.rec_bytes.specs.Places.{with_bytes}
use Rattle.mxf_index.specs.Segments.{frame_bytes}
use Rattle.mxf_index.proofs.segment.put_entries.Given as goal

abbrev pub invariant-entries : goal.invariant-entries
invariant-entries l = (l.end ≡ l.at + ENTRY_SIZE * l.k) × (l.out ≡ with_bytes l.fn.out l.at (flat_map frame_bytes (take l.k l.streams)))
