use Rattle.std.proofs.Common.{◌≡◌, ℕ, ◌+◌, List, length, sym, ◌∙◌, arith}
use Rattle.rec_bytes.specs.Configuration.{Fields}
use Rattle.rec_bytes.specs.laws.Places.{with_bytes-more, with_bytes-whole}
use Rattle.rec_bytes.specs.Views.{view}
use Rattle.klv.specs.Items.{klv_head}
use Rattle.mxf_names.specs.declared.keys.TheConstants.{PICTURE_ELEMENT_KEY}
use Rattle.mxf_take_file.specs.Extents.{Extents}
use Rattle.mxf_take_file.specs.inner.Kept.{extents_kept}
use Rattle.mxf_take_file.specs.Layout.{start_of, lead_of}
use Rattle.mxf_take_file.specs.laws.Parts.{lead_len_by}
use Rattle.mxf_take_file.proofs.lead.put_lead.Goals as goal

pub put_start-at-requires-clause-room : goal.put_start-at-requires-clause-room
put_start-at-requires-clause-room c = omega (arith, lead_len_by (view c.args.cfg.now) (extents_kept c.args.places.now) c.args.unit_len, c.requires.room)

pub put_element_head-requires-clause-room : goal.put_element_head-requires-clause-room
put_element_head-requires-clause-room c =
    omega (arith, lead_len_by (view c.args.cfg.now) (extents_kept c.args.places.now) c.args.unit_len, c.requires.room, c.put_start-at.ensures.behind)

pub returns : goal.returns
unfolding lead_of
returns c =
    let cfg : Fields = view c.args.cfg.now in
    let e : Extents = extents_kept c.args.places.now in
    let old : List ℕ = c.args.out.now in
    let long : length (lead_of cfg e c.args.unit_len) ≡ length (start_of cfg e) + 24 = lead_len_by cfg e c.args.unit_len in
    let room : length old ≡ length (lead_of cfg e c.args.unit_len) = c.requires.room in
    let both = with_bytes-more old 0 c.put_start-at.result (start_of cfg e) (klv_head PICTURE_ELEMENT_KEY 7 c.args.unit_len) c.put_start-at.new.out c.put_element_head.new.out
    c.put_start-at.ensures.written (omega (arith, c.put_start-at.ensures.behind)) (omega (arith, long, room, c.put_start-at.ensures.behind)) c.put_element_head.ensures.written in
    both ∙ with_bytes-whole old (lead_of cfg e c.args.unit_len) (sym room)
