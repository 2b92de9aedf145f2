use Rattle.std.proofs.Common.{◌≡◌, ◌<◌, ◌+◌, ◌*◌, ◌≤◌, ◌^◌, ℕ, ◌*ℤ◌}
use Rattle.std.specs.Int.RustNames.{unsigned_abs}
use Rattle.whole_transform.specs.Sums.{at, sum_to}
use Rattle.whole_transform.specs.Transform.{basis}
use Rattle.whole_transform.proofs.product_lanes.lane_columns.Given as goal

abbrev pub invariant-loop-j : goal.invariant-loop-j
invariant-loop-j l = record {
  sums : (y j : ℕ) → y < 8 → j < l.j → at l.columns (64 * y + j) ≡ sum_to 8 (λ v. basis v y *ℤ at l.products (64 * v + j));
  small : (y j : ℕ) → y < 8 → j < l.j → unsigned_abs (at l.columns (64 * y + j)) ≤ 2 ^ 15 * 43284;
}
