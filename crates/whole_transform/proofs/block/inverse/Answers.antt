use Rattle.std.proofs.Common.{◌∙◌, ◌≤◌, ◌+◌, ◌*◌, ℕ, sym, subst, arith, ap}
use Rattle.whole_transform.specs.Sums.{at}
use Rattle.whole_transform.specs.Transform.{basis, cell, inverse_sum, sample}
use Rattle.whole_transform.proofs.SumLemmas.{columns_then_rows}
use Rattle.whole_transform.proofs.Rounding.{all_in_range, sample_range}
use Rattle.whole_transform.proofs.block.inverse.Goals as goal

pub returns-clause-samples : goal.returns-clause-samples
unfolding inverse_sum
returns-clause-samples c = λ y x y_lt x_lt.
    c.loop-k.invariant.read (8 * y + x) (omega arith)
    ∙ ap sample (c.inverse_sums.ensures.sums y x y_lt x_lt ∙ columns_then_rows 8 8 (λ v. basis v y) (λ u. basis u x) (cell c.args.products.now))

pub returns-clause-range : goal.returns-clause-range
returns-clause-range c = all_in_range c.loop-k.out c.loop-k.invariant.long (λ k lt.
    subst (λ (v : ℕ). v ≤ 1019) (sym (c.loop-k.invariant.read k (omega arith))) (sample_range (at c.inverse_sums.new.sums k)))
