use Rattle.std.proofs.Common.{sym}
use Rattle.rec_bytes.specs.Views.{view}
use Rattle.mxf_take_file.specs.laws.Parts.{head_len_is}
use Rattle.mxf_take_file.proofs.picture_layout.PictureLayoutTakeLayout.head_len.Goals as goal

pub returns : goal.returns
returns c = sym (head_len_is (view c.args.cfg.now) c.ranges-2.ensures)
