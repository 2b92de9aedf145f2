use Rattle.std.proofs.Common.{◌<◌, ◌+◌, ◌*◌, ℕ}
use Rattle.whole_transform.specs.inner.Passes.{forward_of, lane_at}
use Rattle.whole_transform.specs.Transform.{StandsAt}
use Rattle.whole_transform.proofs.sample_lanes.even_columns.Given as goal

abbrev pub invariant-loop-j : goal.invariant-loop-j
invariant-loop-j l = (k j : ℕ) → k < 4 → j < l.j → StandsAt l.sizes l.negative (128 * k + j) (forward_of (λ y. lane_at l.rows y j) (2 * k))
