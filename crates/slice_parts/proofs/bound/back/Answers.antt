use Rattle.std.proofs.Common.{arith}
use Rattle.slice_parts.proofs.GapLemmas.{back_is}
use Rattle.slice_parts.proofs.bound.back.Goals as goal

pub returns : goal.returns
returns c = back_is c.args.marks c.args.before c.args.j (omega (arith, c.requires))
