use Rattle.std.proofs.Common.{◌%◌, arith}
use Rattle.frame_syntax.proofs.RowLemmas.{row_least, row_more}
use Rattle.frame_syntax.proofs.picture_head.cut_by_two.Goals as goal

pub returns-clause-count : goal.returns-clause-count
returns-clause-count c = omega (arith, row_more 0 c.args.macroblocks, row_least (c.args.macroblocks % 2))
