use Rattle.std.proofs.Common.{rules, ◌≡◌, length, sym, ◌∙◌}
use Rattle.rec_bytes.specs.Views.{view}
use Rattle.mxf_take_file.specs.inner.Kept.{extents_kept}
use Rattle.mxf_take_file.specs.laws.Parts.{lead_len_by}
use Rattle.mxf_take_file.proofs.tests.lead_bytes.Goals as goal

pub put_lead-requires-clause-room : goal.put_lead-requires-clause-room
put_lead-requires-clause-room c =
    let long : length c.deref_mut.result.now ≡ c.lead_len.result = search rules in
    long ∙ c.lead_len.ensures ∙ sym (lead_len_by (view c.args.cfg.now) (extents_kept c.args.places.now) c.args.unit_len)
