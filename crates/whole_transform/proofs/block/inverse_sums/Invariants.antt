use Rattle.std.proofs.Common.{◌≡◌, ◌<◌, ℕ, length}
use Rattle.whole_transform.specs.Sums.{at}
use Rattle.whole_transform.proofs.block.inverse_sums.Given as goal

abbrev pub invariant-loop-k : goal.invariant-loop-k
invariant-loop-k l = record {
  read : (j : ℕ) → j < l.k → at l.sums j ≡ at l.products j;
  long : length l.sums ≡ 64;
}
