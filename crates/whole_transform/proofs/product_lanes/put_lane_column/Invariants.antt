use Rattle.std.proofs.Common.{◌≡◌, ◌≢◌, ◌<◌, ◌+◌, ◌*◌, ℕ, length}
use Rattle.whole_transform.specs.Sums.{at}
use Rattle.whole_transform.proofs.product_lanes.put_lane_column.Given as goal

abbrev pub invariant-loop-y : goal.invariant-loop-y
invariant-loop-y l = record {
  placed : (y : ℕ) → y < l.y → at l.columns (64 * y + l.column) ≡ at l.values y;
  kept : (y j : ℕ) → j < 64 → j ≢ l.column → at l.columns (64 * y + j) ≡ at l.initial.columns (64 * y + j);
  long : length l.columns ≡ 512;
}
