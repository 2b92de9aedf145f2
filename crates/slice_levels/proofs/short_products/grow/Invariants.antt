use Rattle.std.proofs.Common.{◌≡◌, ◌≤◌, ◌<◌, ℕ, length, slice_index}
use Rattle.std.specs.Int.RustNames.{unsigned_abs}
use Rattle.whole_transform.specs.Sums.{at}
use Rattle.slice_levels.proofs.short_products.grow.Given as goal

abbrev pub invariant-loop-lane : goal.invariant-loop-lane
invariant-loop-lane l = record {
  long : length l.greatest ≡ 8;
  grown : (j : ℕ) → j < 8 → slice_index l.initial.greatest j ≤ slice_index l.greatest j;
  most : (j : ℕ) → j < l.lane → unsigned_abs (at l.products j) ≤ slice_index l.greatest j;
}
