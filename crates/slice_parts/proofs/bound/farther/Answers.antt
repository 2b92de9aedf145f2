use Rattle.std.proofs.Common.{arith, refl, w64}
use Rattle.std.specs.Int.{bit_not}
use Rattle.slice_parts.proofs.GapLemmas.{near_far}
use Rattle.slice_parts.proofs.bound.farther.Goals as goal

pub returns : goal.returns
returns c = λ marks before are. near_far marks before 8 c.args.near (bit_not w64 c.args.near) (omega arith) refl are
