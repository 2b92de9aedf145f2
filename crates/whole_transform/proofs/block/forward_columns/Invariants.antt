use Rattle.std.proofs.Common.{◌≡◌, ◌<◌, ◌/◌, ◌%◌, ℕ, length}
use Rattle.whole_transform.specs.inner.Passes.{forward_of}
use Rattle.whole_transform.specs.Sums.{at}
use Rattle.whole_transform.specs.Transform.{cell}
use Rattle.whole_transform.proofs.block.forward_columns.Given as goal

abbrev pub invariant-loop-place : goal.invariant-loop-place
invariant-loop-place l = record {
  sums : (p : ℕ) → p < l.place → at l.out p ≡ forward_of (λ i. cell l.values i (p / 8)) (p % 8);
  long : length l.out ≡ 64;
}
