use Rattle.std.proofs.Common.{arith}
use Rattle.slice_parts.proofs.GapLemmas.{gaps_low}
use Rattle.slice_parts.proofs.bound.gaps.Goals as goal

pub returns-clause-low : goal.returns-clause-low
returns-clause-low c = λ before r n run sizes few wide long are carries some.
    gaps_low c.args.marks c.args.near before r n run sizes (omega arith) few wide long are carries some
