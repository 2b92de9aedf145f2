use Rattle.std.proofs.Common.{length, sym, ap, ◌∙◌, arith}
use Rattle.rec_bytes.specs.Views.{view}
use Rattle.mxf_take_file.specs.Extents.{Extents}
use Rattle.mxf_take_file.specs.Layout.{tail_of}
use Rattle.mxf_take_file.specs.laws.Bounds.{take_is_small}
use Rattle.mxf_take_file.specs.laws.Parts.{kept_as}
use Rattle.mxf_take_file.proofs.picture_layout.PictureLayoutTakeLayout.put_tail.Goals as goal

pub put_tail-requires-clause-small : goal.put_tail-requires-clause-small
put_tail-requires-clause-small c = take_is_small (view c.args.cfg.now) c.args.cfg.now.max_frames c.args.places.now c.ranges-2.ensures (omega arith) c.requires.lie

pub put_tail-requires-clause-room : goal.put_tail-requires-clause-room
put_tail-requires-clause-room c =
    c.requires.room c.requires.lie.units c.requires.lie.lie
    ∙ sym (ap (λ (e : Extents). length (tail_of (view c.args.cfg.now) e)) (kept_as (view c.args.cfg.now) c.requires.lie.units c.args.places.now c.ranges-2.ensures c.requires.lie.lie))

pub returns : goal.returns
returns c = λ units is. c.put_tail.ensures ∙ ap (λ (e : Extents). tail_of (view c.args.cfg.now) e) (kept_as (view c.args.cfg.now) units c.args.places.now c.ranges-2.ensures is)
