use Rattle.std.proofs.Common.{◌≡◌, ◌≤◌, ◌<◌, ◌+◌, ◌^◌, ℕ, pos, ◌*ℤ◌}
use Rattle.std.specs.Int.RustNames.{unsigned_abs}
use Rattle.whole_transform.specs.Sums.{at}
use Rattle.slice_levels.proofs.products.put_position.Given as goal

abbrev pub invariant-loop-b : goal.invariant-loop-b
invariant-loop-b l = record {
  in_range : (j : ℕ) → j < l.b → unsigned_abs (at l.levels (l.from + j) *ℤ pos l.factor) ≤ 2 ^ 22;
  products : (j : ℕ) → j < l.b → at l.out (l.from + j) ≡ at l.levels (l.from + j) *ℤ pos l.factor;
  before : (n : ℕ) → n < l.from → at l.out n ≡ at l.initial.out n;
}
