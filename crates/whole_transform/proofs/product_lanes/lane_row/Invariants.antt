use Rattle.std.proofs.Common.{◌≡◌, ◌≢◌, ◌≤◌, ◌<◌, ◌+◌, ◌*◌, ℕ, pos, ◌*ℤ◌}
use Rattle.whole_transform.specs.Sums.{at, sum_to}
use Rattle.whole_transform.specs.Transform.{basis, lane_cell, sample}
use Rattle.whole_transform.proofs.product_lanes.lane_row.Given as goal

abbrev pub invariant-loop-lane : goal.invariant-loop-lane
invariant-loop-lane l = record {
  samples : (b x : ℕ) → b < l.lane → x < 8 → lane_cell l.blocks b l.row x ≡ pos (sample (sum_to 8 (λ u. basis u x *ℤ lane_cell l.initial.blocks b l.row u)));
  left : (b u : ℕ) → l.lane ≤ b → b < 8 → u < 8 → lane_cell l.blocks b l.row u ≡ lane_cell l.initial.blocks b l.row u;
  kept : (y j : ℕ) → j < 64 → y ≢ l.row → at l.blocks (64 * y + j) ≡ at l.initial.blocks (64 * y + j);
}
