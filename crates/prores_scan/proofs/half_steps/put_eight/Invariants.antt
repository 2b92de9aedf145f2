use Rattle.std.proofs.Common.{◌≡◌, ◌<◌, ◌≤◌, ◌+◌, ◌⊎◌, ℕ, length, slice_index}
use Rattle.prores_scan.proofs.half_steps.put_eight.Given as goal

abbrev pub invariant-loop-b : goal.invariant-loop-b
invariant-loop-b l = record {
  long : length l.out ≡ length l.initial.out;
  placed : (j : ℕ) → j < l.b → slice_index l.out (l.to + j) ≡ slice_index l.values j;
  kept : (k : ℕ) → (k < l.to) ⊎ (l.to + 8 ≤ k) → slice_index l.out k ≡ slice_index l.initial.out k;
}
