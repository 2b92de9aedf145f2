use Rattle.std.proofs.Common.{◌≡◌, ◌≤◌, ◌<◌, ◌+◌, ◌*◌, ℕ, pos, ◌*ℤ◌}
use Rattle.whole_transform.specs.Sums.{at, sum_to}
use Rattle.whole_transform.specs.Transform.{basis, lane_cell, sample}
use Rattle.whole_transform.proofs.product_lanes.lane_rows.Given as goal

abbrev pub invariant-loop-y : goal.invariant-loop-y
invariant-loop-y l = record {
  samples : (b y x : ℕ) → b < 8 → y < l.y → x < 8 → lane_cell l.blocks b y x ≡ pos (sample (sum_to 8 (λ u. basis u x *ℤ lane_cell l.initial.blocks b y u)));
  left : (y j : ℕ) → l.y ≤ y → y < 8 → j < 64 → at l.blocks (64 * y + j) ≡ at l.initial.blocks (64 * y + j);
}
