use Rattle.std.proofs.Common.{◌≡◌, ◌/◌, ℕ, subst, arith}
use Rattle.slice_parts.specs.Component.{signed_levels}
use Rattle.slice_parts.specs.Bound.{numbers_at, AreLeft}
use Rattle.slice_parts.proofs.bound.least_bits.Goals as goal

pub returns-clause-left : goal.returns-clause-left
returns-clause-left c = λ scale twice.
    let same : c.args.double.divisor / 2 ≡ scale = omega (arith, twice) in
    subst (λ (k : ℕ). AreLeft (signed_levels (numbers_at k c.args.half_steps.now)) c.ac_bits-bits.result.left) same c.ac_bits-bits.ensures.left
