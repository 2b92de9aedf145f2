use Rattle.std.proofs.Common.{◌≡◌, ◌≢◌, ◌⊎◌, ◌<◌, ℕ, length}
use Rattle.whole_transform.specs.Sums.{at}
use Rattle.whole_transform.specs.Transform.{lane_cell}
use Rattle.whole_transform.proofs.sample_lanes.put_lane_row.Given as goal

abbrev pub invariant-loop-u : goal.invariant-loop-u
invariant-loop-u l = record {
  placed : (u : ℕ) → u < l.u → lane_cell l.rows l.lane l.row u ≡ at l.sums u;
  kept : (b y u : ℕ) → b < 8 → u < 8 → (b ≢ l.lane) ⊎ (y ≢ l.row) → lane_cell l.rows b y u ≡ lane_cell l.initial.rows b y u;
  long : length l.rows ≡ 512;
}
