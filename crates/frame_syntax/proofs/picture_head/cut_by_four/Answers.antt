use Rattle.std.proofs.Common.{arith}
use Rattle.frame_syntax.proofs.RowLemmas.{row_more}
use Rattle.frame_syntax.proofs.picture_head.cut_by_four.Goals as goal

pub returns-clause-count : goal.returns-clause-count
returns-clause-count c = omega (arith, row_more 1 c.args.macroblocks, c.cut_by_two.ensures.count)
