use Rattle.std.proofs.Common.{arith}
use Rattle.slice_parts.proofs.GapLemmas.{near_more}
use Rattle.slice_parts.proofs.bound.nearer.Goals as goal

pub returns : goal.returns
returns c = λ are. near_more c.args.marks c.args.before c.args.j c.args.near c.back.result (omega (arith, c.requires)) are c.back.ensures
