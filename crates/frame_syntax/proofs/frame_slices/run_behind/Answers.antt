use Rattle.std.proofs.Common.{Option, sym, ap, arith}
use Rattle.frame_syntax.specs.Pictures.{slice_sizes, spans_from}
use Rattle.frame_syntax.specs.Frames.{spans_in}
use Rattle.frame_syntax.specs.declared.picture_head.PictureHead.{PictureHead}
use Rattle.frame_syntax.proofs.frame_slices.run_behind.Goals as goal

pub returns-in-None-clause-spans : goal.returns-in-None-clause-spans
unfolding slice_sizes spans_from
returns-in-None-clause-spans c = sym (ap (λ (second : Option PictureHead). spans_in c.args.bytes.now second) c.in-None.is)

pub returns-in-None-clause-fits : goal.returns-in-None-clause-fits
unfolding slice_sizes
returns-in-None-clause-fits c = record { entries = omega arith; slices = omega arith }
