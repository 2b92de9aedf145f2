use Rattle.std.proofs.Common.{◌≡◌, ◌≢◌, ◌<◌, ◌+◌, ◌*◌, ℕ, pos, ◌*ℤ◌, length}
use Rattle.whole_transform.specs.Sums.{at}
use Rattle.slice_levels.specs.inner.Short.{ArePut}
use Rattle.slice_levels.proofs.short_products.put_some.Given as goal

abbrev pub invariant-loop-lane : goal.invariant-loop-lane
invariant-loop-lane l = record {
  placed : (j : ℕ) → j < l.lane → ArePut (8 * l.p + j) l.lanes (at l.levels (l.from + j) *ℤ pos l.factor);
  kept : (q j : ℕ) → j < 8 → q ≢ l.p → at l.lanes (8 * q + j) ≡ at l.initial.lanes (8 * q + j);
  long : length l.lanes ≡ 512;
}
