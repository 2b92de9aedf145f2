use Rattle.std.proofs.Common.{◌≡◌, true}
use Rattle.std.specs.List.{range_with_len, list_all}
use Rattle.mxf_index.specs.Dues.{is_frame_entry}
use Rattle.mxf_index.proofs.array.are_frame_entries.Given as goal

abbrev pub invariant-entries : goal.invariant-entries
invariant-entries l = list_all (is_frame_entry l.held) (range_with_len 0 l.k) ≡ true
