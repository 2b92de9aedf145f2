use Rattle.std.proofs.Common.{◌≡◌, ◌≢◌, ◌<◌, ◌+◌, ◌*◌, ℕ}
use Rattle.whole_transform.specs.inner.Passes.{forward_of}
use Rattle.whole_transform.specs.Sums.{at}
use Rattle.whole_transform.specs.Transform.{lane_cell}
use Rattle.whole_transform.proofs.sample_lanes.forward_row.Given as goal

abbrev pub invariant-loop-lane : goal.invariant-loop-lane
invariant-loop-lane l = record {
  sums : (b u : ℕ) → b < l.lane → u < 8 → lane_cell l.rows b l.row u ≡ forward_of (λ x. at l.values (8 * x + b)) u;
  kept : (b y u : ℕ) → b < 8 → u < 8 → y ≢ l.row → lane_cell l.rows b y u ≡ lane_cell l.initial.rows b y u;
}
