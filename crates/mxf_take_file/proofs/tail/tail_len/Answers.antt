use Rattle.std.proofs.Common.{◌≡◌, ℕ, ◌-◌, length, ap, arith}
use Rattle.rec_bytes.specs.Configuration.{Fields}
use Rattle.rec_bytes.specs.Views.{view}
use Rattle.mxf_take_file.specs.Extents.{Extents}
use Rattle.mxf_take_file.specs.inner.Kept.{extents_kept}
use Rattle.mxf_take_file.specs.Segments.{segment_size, last_first}
use Rattle.mxf_take_file.specs.laws.Counts.{last_few}
use Rattle.mxf_take_file.specs.laws.Parts.{kept_whole, tail_len_is}
use Rattle.mxf_take_file.proofs.tail.tail_len.Goals as goal

pub segment_size-requires : goal.segment_size-requires
segment_size-requires c = omega (arith, last_few c.args.cfg.now.part (length c.args.places.now) c.requires.range.part.least, c.last_first.ensures.first, c.requires.range.part.most)

pub returns : goal.returns
returns c =
    let cfg : Fields = view c.args.cfg.now in
    let e : Extents = extents_kept c.args.places.now in
    let size : segment_size (length c.args.places.now - c.last_first.result) ≡ segment_size (e.count - last_first cfg e) =
    ap (λ (n : ℕ). segment_size (length c.args.places.now - n)) c.last_first.ensures.first in
    omega (arith, tail_len_is cfg e (kept_whole c.args.places.now) c.requires.range, size, c.segment_size.ensures.size, c.random_index_len.ensures, c.body_count.ensures.count)
