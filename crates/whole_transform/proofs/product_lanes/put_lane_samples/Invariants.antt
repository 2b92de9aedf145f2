use Rattle.std.proofs.Common.{◌≡◌, ◌≢◌, ◌<◌, ◌+◌, ◌*◌, ℕ, pos, length, slice_index}
use Rattle.whole_transform.specs.Sums.{at}
use Rattle.whole_transform.specs.Transform.{lane_cell}
use Rattle.whole_transform.proofs.product_lanes.put_lane_samples.Given as goal

abbrev pub invariant-loop-x : goal.invariant-loop-x
invariant-loop-x l = record {
  placed : (x : ℕ) → x < l.x → lane_cell l.blocks l.lane l.row x ≡ pos (slice_index l.values x);
  lanes : (b x : ℕ) → b < 8 → x < 8 → b ≢ l.lane → lane_cell l.blocks b l.row x ≡ lane_cell l.initial.blocks b l.row x;
  rows : (y j : ℕ) → j < 64 → y ≢ l.row → at l.blocks (64 * y + j) ≡ at l.initial.blocks (64 * y + j);
  long : length l.blocks ≡ 512;
}
