use Rattle.std.proofs.Common.{◌<◌, ◌+◌, ◌*◌, ℕ}
use Rattle.whole_transform.specs.inner.Passes.{IsKept, forward_of, lane_at}
use Rattle.whole_transform.specs.Transform.{StandsAt}
use Rattle.whole_transform.proofs.sample_lanes.odd_columns.Given as goal

abbrev pub invariant-loop-j : goal.invariant-loop-j
invariant-loop-j l = record {
  odd : (k j : ℕ) → k < 4 → j < l.j → StandsAt l.sizes l.negative (128 * k + (64 + j)) (forward_of (λ y. lane_at l.rows y j) (2 * k + 1));
  even : (k j : ℕ) → j < 64 → IsKept l.initial.sizes l.initial.negative l.sizes l.negative (128 * k + j);
}
