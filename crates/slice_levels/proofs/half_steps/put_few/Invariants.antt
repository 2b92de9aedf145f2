use Rattle.std.proofs.Common.{◌≡◌, ◌≤◌, ◌<◌, ◌+◌, ◌*◌, ◌⊎◌, ℕ, slice_index}
use Rattle.slice_levels.specs.inner.Weighed.{IsWeighed}
use Rattle.slice_levels.proofs.half_steps.put_few.Given as goal

abbrev pub invariant-loop-lane : goal.invariant-loop-lane
invariant-loop-lane l = record {
  placed : (j : ℕ) → j < l.lane → IsWeighed l.sizes l.negative (8 * l.p + j) l.weight.divisor (slice_index l.out (l.to + j));
  kept : (n : ℕ) → (n < l.to) ⊎ (l.to + l.filled ≤ n) → slice_index l.out n ≡ slice_index l.initial.out n;
}
