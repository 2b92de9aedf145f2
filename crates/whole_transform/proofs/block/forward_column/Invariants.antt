use Rattle.std.proofs.Common.{◌≡◌, ◌≤◌, ◌*◌, ◌^◌, ◌*ℤ◌}
use Rattle.std.specs.Int.RustNames.{unsigned_abs}
use Rattle.whole_transform.specs.Sums.{sum_to}
use Rattle.whole_transform.specs.Transform.{basis, cell}
use Rattle.whole_transform.proofs.block.forward_column.Given as goal

abbrev pub invariant-loop-j : goal.invariant-loop-j
invariant-loop-j l = record {
  value : l.sum ≡ sum_to l.j (λ j. basis l.k j *ℤ cell l.values j l.column);
  small : unsigned_abs l.sum ≤ l.j * (8035 * 2 ^ 40);
}
