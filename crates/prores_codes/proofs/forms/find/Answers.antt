use Rattle.std.proofs.Common.{arith}
use Rattle.prores_codes.specs.Codes.{parameters}
use Rattle.prores_codes.specs.inner.Forms.{many_zeros}
use Rattle.prores_codes.proofs.Made.{leading_range, leading_none}
use Rattle.prores_codes.proofs.forms.find.Goals as goal

pub find_short-requires-clause-highest : goal.find_short-requires-clause-highest
find_short-requires-clause-highest c = (leading_range c.args.next (omega (arith, c.ranges.next)) (omega (arith, c.args.code.switch))).0

pub find_short-requires-clause-all : goal.find_short-requires-clause-all
find_short-requires-clause-all c = (leading_range c.args.next (omega (arith, c.ranges.next)) (omega (arith, c.args.code.switch))).1

pub find_long-requires-clause-highest : goal.find_long-requires-clause-highest
find_long-requires-clause-highest c = (leading_range c.args.next (omega (arith, c.ranges.next)) (omega (arith, c.args.code.switch))).0

pub find_long-requires-clause-all : goal.find_long-requires-clause-all
find_long-requires-clause-all c = (leading_range c.args.next (omega (arith, c.ranges.next)) (omega (arith, c.args.code.switch))).1

pub returns-else-zeros-code-le32-clause-none : goal.returns-else-zeros-code-le32-clause-none
returns-else-zeros-code-le32-clause-none c = leading_none c.args.next (many_zeros (parameters c.args.code)) (omega (arith, c.ranges.next)) (omega arith)
