use Rattle.std.proofs.Common.{length, sym, ap, ◌∙◌}
use Rattle.rec_bytes.specs.Views.{view}
use Rattle.mxf_take_file.specs.Extents.{Extents}
use Rattle.mxf_take_file.specs.inner.Kept.{extents_kept}
use Rattle.mxf_take_file.specs.Layout.{lead_of}
use Rattle.mxf_take_file.specs.laws.Parts.{kept_as, lead_len_by}
use Rattle.mxf_take_file.proofs.picture_layout.PictureLayoutTakeLayout.lead_len.Goals as goal

pub returns : goal.returns
returns c = λ units unit_len is.
    c.lead_len.ensures
    ∙ sym (lead_len_by (view c.args.cfg.now) (extents_kept c.args.places.now) unit_len)
    ∙ ap (λ (e : Extents). length (lead_of (view c.args.cfg.now) e unit_len)) (kept_as (view c.args.cfg.now) units c.args.places.now c.ranges-2.ensures is)
