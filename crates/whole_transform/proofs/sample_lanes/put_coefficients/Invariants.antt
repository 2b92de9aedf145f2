use Rattle.std.proofs.Common.{◌≢◌, ◌<◌, ◌+◌, ◌*◌, ℕ, pos, ◌+ℤ◌, ◌*ℤ◌}
use Rattle.whole_transform.specs.inner.Passes.{IsKept}
use Rattle.whole_transform.specs.Sums.{at}
use Rattle.whole_transform.specs.Transform.{StandsAt}
use Rattle.whole_transform.proofs.sample_lanes.put_coefficients.Given as goal

abbrev pub invariant-loop-k : goal.invariant-loop-k
invariant-loop-k l = record {
  placed : (k : ℕ) → k < l.k → StandsAt l.sizes l.negative (128 * k + l.place) (pos 65536 *ℤ at l.high k +ℤ at l.low k);
  kept : (k j : ℕ) → j < 128 → j ≢ l.place → IsKept l.initial.sizes l.initial.negative l.sizes l.negative (128 * k + j);
}
