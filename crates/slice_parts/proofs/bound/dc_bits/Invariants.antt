use Rattle.std.proofs.Common.{◌≡◌, ◌≤◌, ◌+◌, ◌-◌, ◌*◌, ℕ, drop}
use Rattle.slice_parts.specs.Bound.{dc_bound, changes_at}
use Rattle.slice_parts.proofs.bound.dc_bits.Given as goal

abbrev pub invariant-loop-k : goal.invariant-loop-k
invariant-loop-k l = record {
  low : (scale : ℕ) → l.double.divisor ≡ 2 * scale → l.bits + dc_bound (changes_at scale (drop (l.k - 1) l.half_steps)) ≡ 5 + dc_bound (changes_at scale l.half_steps);
  small : l.bits ≤ 12 * l.k;
}
