use Rattle.std.proofs.Common.{◌≡◌, ℕ, ◌-◌, length, ap, arith}
use Rattle.rec_bytes.specs.Configuration.{Fields}
use Rattle.rec_bytes.specs.Views.{view}
use Rattle.mxf_take_file.specs.Extents.{Extents}
use Rattle.mxf_take_file.specs.inner.Kept.{extents_kept}
use Rattle.mxf_take_file.specs.Segments.{segment_size, whole_first}
use Rattle.mxf_take_file.specs.laws.Parts.{kept_whole, body_start_len_is}
use Rattle.mxf_take_file.proofs.lead.body_start_len.Goals as goal

pub returns-clause-size : goal.returns-clause-size
returns-clause-size c =
    let cfg : Fields = view c.args.cfg.now in
    let e : Extents = extents_kept c.args.places.now in
    let size : segment_size (length c.args.places.now - c.whole_first.result) ≡ segment_size (e.count - whole_first cfg e) =
    ap (λ (n : ℕ). segment_size (length c.args.places.now - n)) c.whole_first.ensures.first in
    omega (arith, body_start_len_is cfg e (kept_whole c.args.places.now), c.segment_size.ensures.size, size)
