use Rattle.std.proofs.Common.{sym, ◌∙◌}
use Rattle.mxf_index.specs.Dues.{is_frame_entry}
use Rattle.mxf_index.proofs.RangeLemmas.{not_all}
use Rattle.mxf_index.proofs.array.are_frame_entries.Goals as goal

pub returns-then-not-is_frame_entry : goal.returns-then-not-is_frame_entry
returns-then-not-is_frame_entry c =
    sym (not_all (is_frame_entry c.args.held.now) c.entries.k c.args.count c.entries-test.true (sym c.is_frame_entry.ensures ∙ c.if-not-is_frame_entry.true))
