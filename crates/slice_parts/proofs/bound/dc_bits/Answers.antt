use Rattle.std.proofs.Common.{◌≡◌, ◌+◌, ◌-◌, List, ℕ, length, ap, arith}
use Rattle.slice_parts.specs.Bound.{dc_bound}
use Rattle.slice_parts.proofs.ChangeLemmas.{last_change}
use Rattle.slice_parts.proofs.bound.dc_bits.Goals as goal

pub returns-clause-low : goal.returns-clause-low
returns-clause-low c = λ scale twice.
    let last : c.loop-k.k - 1 + 1 ≡ length c.args.half_steps.now = omega (arith, c.loop-k-test.false, c.loop-k.auto.k-end, c.loop-k.auto.k, c.requires.some) in
    omega (arith, c.loop-k.invariant.low scale twice, ap (λ (cs : List ℕ). dc_bound cs) (last_change scale (c.loop-k.k - 1) c.args.half_steps.now last))
