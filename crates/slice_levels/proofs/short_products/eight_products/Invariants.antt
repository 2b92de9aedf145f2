use Rattle.std.proofs.Common.{◌≡◌, ◌<◌, ◌+◌, ℕ, pos, ◌*ℤ◌, length}
use Rattle.whole_transform.specs.Sums.{at}
use Rattle.slice_levels.proofs.short_products.eight_products.Given as goal

abbrev pub invariant-loop-lane : goal.invariant-loop-lane
invariant-loop-lane l = record {
  long : length l.products ≡ 8;
  each : (j : ℕ) → j < l.lane → at l.products j ≡ at l.levels (l.from + j) *ℤ pos l.factor;
}
