use Rattle.std.proofs.Common.{◌≡◌, ◌<◌, ℕ, length, get_or, slice_index}
use Rattle.prores_scan.specs.declared.reciprocals.Reciprocal.{Reciprocal}
use Rattle.prores_scan.proofs.divisors.weight_reciprocals.Given as goal

abbrev pub invariant-loop-p : goal.invariant-loop-p
invariant-loop-p l = record {
  long : length l.reciprocals ≡ 64;
  divide : (q : ℕ) (none : Reciprocal) → q < l.p → (get_or l.reciprocals q none).divisor ≡ slice_index l.weights q;
}
