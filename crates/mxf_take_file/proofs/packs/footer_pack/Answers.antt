use Rattle.std.proofs.Common.{◌≡◌, ℕ, ◌-◌, length, refl, sym, ap, ◌∙◌, arith}
use Rattle.rec_bytes.specs.Configuration.{Fields}
use Rattle.rec_bytes.specs.Views.{view}
use Rattle.mxf_take_file.specs.Extents.{Extents}
use Rattle.mxf_take_file.specs.inner.Kept.{extents_kept}
use Rattle.mxf_take_file.specs.Packs.{footer_pack}
use Rattle.mxf_take_file.specs.Segments.{segment_from, segment_size, last_first}
use Rattle.mxf_take_file.specs.laws.Parts.{segment_len_is, kept_whole}
use Rattle.mxf_take_file.specs.laws.Counts.{last_few}
use Rattle.mxf_take_file.proofs.packs.footer_pack.Goals as goal

pub returns : goal.returns
unfolding footer_pack
returns c =
    let cfg : Fields = view c.args.cfg.now in
    let e : Extents = extents_kept c.args.places.now in
    let index : length (segment_from cfg e (last_first cfg e)) ≡ c.segment_size-index_bytes.result =
    segment_len_is cfg e (last_first cfg e) (kept_whole c.args.places.now)
    ∙ ap (λ (n : ℕ). segment_size (length c.args.places.now - n)) (sym c.last_first-first.ensures.first)
    ∙ sym c.segment_size-index_bytes.ensures.size in
    rw (index, c.index_stream.ensures, c.bare_pack.ensures, c.end_of.ensures, c.end_of-2.ensures, c.pack_before.ensures, c.last_first-first.ensures.first) refl

pub segment_size-index_bytes-requires : goal.segment_size-index_bytes-requires
segment_size-index_bytes-requires c =
    omega (arith, last_few c.args.cfg.now.part (length c.args.places.now) c.requires.range.part.least, c.last_first-first.ensures.first, c.requires.range.part.most)
