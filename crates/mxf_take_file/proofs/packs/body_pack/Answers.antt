use Rattle.std.proofs.Common.{◌≡◌, ℕ, ◌-◌, length, refl, sym, ap, ◌∙◌}
use Rattle.rec_bytes.specs.Configuration.{Fields}
use Rattle.rec_bytes.specs.Views.{view}
use Rattle.mxf_take_file.specs.Extents.{Extents}
use Rattle.mxf_take_file.specs.inner.Kept.{extents_kept}
use Rattle.mxf_take_file.specs.Packs.{body_pack}
use Rattle.mxf_take_file.specs.Segments.{segment_from, segment_size, whole_first}
use Rattle.mxf_take_file.specs.laws.Parts.{segment_len_is, kept_whole}
use Rattle.mxf_take_file.proofs.packs.body_pack.Goals as goal

pub returns : goal.returns
unfolding body_pack
returns c =
    let cfg : Fields = view c.args.cfg.now in
    let e : Extents = extents_kept c.args.places.now in
    let index : length (segment_from cfg e (whole_first cfg e)) ≡ c.segment_size-index_bytes.result =
    segment_len_is cfg e (whole_first cfg e) (kept_whole c.args.places.now)
    ∙ ap (λ (n : ℕ). segment_size (length c.args.places.now - n)) (sym c.whole_first-first.ensures.first)
    ∙ sym c.segment_size-index_bytes.ensures.size in
    rw (index, c.index_stream.ensures, c.bare_pack.ensures, c.end_of.ensures, c.pack_before.ensures, c.total_of.ensures, c.whole_first-first.ensures.first) refl
