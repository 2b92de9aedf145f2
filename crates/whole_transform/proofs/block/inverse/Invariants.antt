use Rattle.std.proofs.Common.{◌≡◌, ◌<◌, ℕ, length, slice_index}
use Rattle.whole_transform.specs.Sums.{at}
use Rattle.whole_transform.specs.Transform.{sample}
use Rattle.whole_transform.proofs.block.inverse.Given as goal

abbrev pub invariant-loop-k : goal.invariant-loop-k
invariant-loop-k l = record {
  read : (j : ℕ) → j < l.k → slice_index l.out j ≡ sample (at l.sums j);
  long : length l.out ≡ 64;
}
