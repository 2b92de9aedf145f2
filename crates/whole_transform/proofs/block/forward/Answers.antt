use Rattle.std.proofs.Common.{◌∙◌, ◌<◌, ◌+◌, ◌*◌, ℕ, arith}
use Rattle.std.proofs.lemmas.Int.{ints}
use Rattle.whole_transform.specs.inner.Passes.{forward_of}
use Rattle.whole_transform.specs.Transform.{basis, cell, centred, forward_sum}
use Rattle.whole_transform.proofs.SumLemmas.{columns_then_rows, sum_of_equal}
use Rattle.whole_transform.proofs.block.forward.Goals as goal

pub forward_columns-requires-2 : goal.forward_columns-requires-2
forward_columns-requires-2 c = λ k lt.
    let small = c.forward_columns.ensures.small 512 (λ j j_lt. let read = c.loop-k.invariant.read j (omega arith) in let sample = c.requires.samples j in omega (arith, ints)) k lt in
    omega arith

pub returns-clause-sums : goal.returns-clause-sums
unfolding forward_sum
returns-clause-sums c = λ v u v_lt u_lt.
    let column = λ (x : ℕ) (x_lt : x < 8). c.forward_columns.ensures.sums x v x_lt v_lt
    ∙ sum_of_equal 8 (basis v) (λ y. cell c.loop-k.out y x) (λ y. centred c.args.block.now y x) (λ y y_lt. c.loop-k.invariant.read (8 * y + x) (omega arith)) in
    c.forward_columns-2.ensures.sums v u v_lt u_lt
    ∙ sum_of_equal 8 (basis u) (λ x. cell c.forward_columns.new.out x v) (λ x. forward_of (λ y. centred c.args.block.now y x) v) column
    ∙ columns_then_rows 8 8 (basis v) (basis u) (centred c.args.block.now)

pub returns-clause-small : goal.returns-clause-small
returns-clause-small c = λ k lt.
    let columns = c.forward_columns.ensures.small 512 (λ j j_lt. let read = c.loop-k.invariant.read j (omega arith) in let sample = c.requires.samples j in omega (arith, ints)) in
    let small = c.forward_columns-2.ensures.small (512 * 46344) columns k lt in
    omega arith
