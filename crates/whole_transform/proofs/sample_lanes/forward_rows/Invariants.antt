use Rattle.std.proofs.Common.{◌≡◌, ◌<◌, ℕ}
use Rattle.whole_transform.specs.inner.Passes.{forward_of}
use Rattle.whole_transform.specs.Transform.{lane_cell, lane_centred}
use Rattle.whole_transform.proofs.sample_lanes.forward_rows.Given as goal

abbrev pub invariant-loop-y : goal.invariant-loop-y
invariant-loop-y l = (b y u : ℕ) → b < 8 → y < l.y → u < 8 → lane_cell l.rows b y u ≡ forward_of (lane_centred l.samples b y) u
