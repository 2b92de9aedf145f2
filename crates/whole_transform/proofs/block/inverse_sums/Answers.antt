use Rattle.std.proofs.Common.{◌∙◌, ◌≤◌, ◌<◌, ◌+◌, ◌*◌, ◌^◌, ℕ, ℤ, sym, subst, arith}
use Rattle.std.specs.Int.RustNames.{unsigned_abs}
use Rattle.whole_transform.specs.inner.Passes.{inverse_of}
use Rattle.whole_transform.specs.Transform.{basis, cell}
use Rattle.whole_transform.proofs.SumLemmas.{sum_of_equal}
use Rattle.whole_transform.proofs.block.inverse_sums.Goals as goal

pub inverse_columns-requires-2 : goal.inverse_columns-requires-2
inverse_columns-requires-2 c = λ k lt.
    let small = c.inverse_columns.ensures.small (2 ^ 22) (λ j j_lt. subst (λ (z : ℤ). unsigned_abs z ≤ 2 ^ 22) (sym (c.loop-k.invariant.read j (omega arith))) (c.requires j)) k lt in
    omega arith

pub returns-clause-sums : goal.returns-clause-sums
returns-clause-sums c = λ y x y_lt x_lt.
    let column = λ (u : ℕ) (u_lt : u < 8). c.inverse_columns.ensures.sums u y u_lt y_lt
    ∙ sum_of_equal 8 (λ v. basis v y) (λ v. cell c.loop-k.sums v u) (λ v. cell c.args.products.now v u) (λ v v_lt. c.loop-k.invariant.read (8 * v + u) (omega arith)) in
    c.inverse_columns-2.ensures.sums y x y_lt x_lt
    ∙ sum_of_equal 8 (λ u. basis u x) (λ u. cell c.inverse_columns.new.out u y) (λ u. inverse_of (λ v. cell c.args.products.now v u) y) column

pub returns-clause-small : goal.returns-clause-small
returns-clause-small c = λ k lt.
    let columns = c.inverse_columns.ensures.small (2 ^ 22) (λ j j_lt. subst (λ (z : ℤ). unsigned_abs z ≤ 2 ^ 22) (sym (c.loop-k.invariant.read j (omega arith))) (c.requires j)) in
    let small = c.inverse_columns-2.ensures.small (2 ^ 22 * 43284) columns k lt in
    omega arith
