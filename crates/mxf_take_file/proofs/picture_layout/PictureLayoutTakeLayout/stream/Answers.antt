use Rattle.std.proofs.Common.{◌-◌, ap, ◌∙◌, arith}
use Rattle.rec_bytes.specs.Views.{view}
use Rattle.mxf_take_file.specs.Extents.{Extents}
use Rattle.mxf_take_file.specs.laws.Bounds.{take_is_small}
use Rattle.mxf_take_file.specs.laws.Parts.{kept_as}
use Rattle.mxf_take_file.proofs.picture_layout.PictureLayoutTakeLayout.stream.Goals as goal

pub total_of-requires : goal.total_of-requires
total_of-requires c = record { small = take_is_small (view c.args.cfg.now) (c.args.cfg.now.max_frames - 1) c.args.places.now c.ranges-2.ensures (omega arith) c.requires.lie }

pub returns : goal.returns
returns c = λ units is. c.total_of.ensures ∙ ap (λ (e : Extents). e.total) (kept_as (view c.args.cfg.now) units c.args.places.now c.ranges-2.ensures is)
