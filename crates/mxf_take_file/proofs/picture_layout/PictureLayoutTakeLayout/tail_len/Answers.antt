use Rattle.std.proofs.Common.{length, ap, ◌∙◌, arith}
use Rattle.rec_bytes.specs.Views.{view}
use Rattle.mxf_take_file.specs.Extents.{Extents}
use Rattle.mxf_take_file.specs.Layout.{tail_of}
use Rattle.mxf_take_file.specs.laws.Bounds.{take_is_small}
use Rattle.mxf_take_file.specs.laws.Parts.{kept_as}
use Rattle.mxf_take_file.proofs.picture_layout.PictureLayoutTakeLayout.tail_len.Goals as goal

pub tail_len-requires-clause-small : goal.tail_len-requires-clause-small
tail_len-requires-clause-small c = take_is_small (view c.args.cfg.now) c.args.cfg.now.max_frames c.args.places.now c.ranges-2.ensures (omega arith) c.requires.lie

pub returns : goal.returns
returns c = λ units is. c.tail_len.ensures ∙ ap (λ (e : Extents). length (tail_of (view c.args.cfg.now) e)) (kept_as (view c.args.cfg.now) units c.args.places.now c.ranges-2.ensures is)
