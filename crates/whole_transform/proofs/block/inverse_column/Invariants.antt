use Rattle.std.proofs.Common.{◌≡◌, ◌≤◌, ◌*◌, ◌^◌, ◌*ℤ◌}
use Rattle.std.specs.Int.RustNames.{unsigned_abs}
use Rattle.whole_transform.specs.Sums.{sum_to}
use Rattle.whole_transform.specs.Transform.{basis, cell}
use Rattle.whole_transform.proofs.block.inverse_column.Given as goal

abbrev pub invariant-loop-k : goal.invariant-loop-k
invariant-loop-k l = record {
  value : l.sum ≡ sum_to l.k (λ k. basis k l.j *ℤ cell l.values k l.column);
  small : unsigned_abs l.sum ≤ l.k * (8035 * 2 ^ 40);
}
