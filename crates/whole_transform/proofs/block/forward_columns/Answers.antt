use Rattle.std.proofs.Common.{◌≤◌, ◌+◌, ◌*◌, ◌/◌, ◌%◌, ℤ, subst, sym, arith}
use Rattle.std.specs.Int.RustNames.{unsigned_abs}
use Rattle.whole_transform.specs.Transform.{cell}
use Rattle.whole_transform.proofs.Halves.{basis_small}
use Rattle.whole_transform.proofs.block.forward_columns.Goals as goal

pub returns-clause-small : goal.returns-clause-small
returns-clause-small c = λ m small p lt.
    subst (λ (z : ℤ). unsigned_abs z ≤ m * 46344) (sym (c.loop-place.invariant.sums p (omega arith)))
    (basis_small m (λ i. cell c.args.values.now i (p / 8)) (λ i i_lt. small (8 * i + p / 8) (omega arith)) (p % 8) (omega arith))
