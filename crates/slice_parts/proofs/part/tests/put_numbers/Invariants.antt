use Rattle.std.proofs.Common.{◌≡◌, ◌≤◌, ◌<◌, ◌+◌, ◌^◌, ℕ, length, slice_index}
use Rattle.slice_parts.proofs.part.tests.put_numbers.Given as goal

abbrev pub invariant-loop-k : goal.invariant-loop-k
invariant-loop-k l = record {
  small : (j : ℕ) → j < l.k → slice_index l.out j ≤ 2 ^ 14 + 1;
  long : length l.out ≡ length l.fn.out;
}
