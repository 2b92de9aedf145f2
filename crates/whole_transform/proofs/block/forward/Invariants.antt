use Rattle.std.proofs.Common.{◌≡◌, ◌<◌, ℕ, pos, ◌-ℤ◌, length, slice_index}
use Rattle.whole_transform.specs.Sums.{at}
use Rattle.whole_transform.proofs.block.forward.Given as goal

abbrev pub invariant-loop-k : goal.invariant-loop-k
invariant-loop-k l = record {
  read : (j : ℕ) → j < l.k → at l.out j ≡ pos (slice_index l.block j) -ℤ pos 512;
  long : length l.out ≡ 64;
}
