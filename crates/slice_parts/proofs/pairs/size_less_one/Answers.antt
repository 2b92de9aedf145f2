use Rattle.std.proofs.Common.{arith}
use Rattle.slice_parts.proofs.NumberLemmas.{signed_is}
use Rattle.slice_parts.proofs.pairs.size_less_one.Goals as goal

pub returns-clause-value : goal.returns-clause-value
returns-clause-value c = omega (arith, (signed_is c.args.number c.requires.some).size)
