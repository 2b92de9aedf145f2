use Rattle.std.proofs.Common.{◌≡◌, ◌≢◌, ◌∙◌, ◌≤◌, ◌+◌, ◌*◌, ◌^◌, ℕ, ℤ, sym, subst, ⊎_elim, arith}
use Rattle.std.specs.Int.RustNames.{unsigned_abs}
use Rattle.std.proofs.lemmas.Bool.{cases_eq}
use Rattle.whole_transform.specs.inner.Passes.{forward_of, lane_at}
use Rattle.whole_transform.specs.Sums.{at}
use Rattle.whole_transform.specs.Transform.{StandsAt, basis}
use Rattle.whole_transform.proofs.Halves.{basis_small}
use Rattle.whole_transform.proofs.SizeLemmas.{stands_kept}
use Rattle.whole_transform.proofs.SumLemmas.{sum_of_equal}
use Rattle.whole_transform.proofs.sample_lanes.even_columns.Goals as goal

pub put_coefficients-requires-clause-small : goal.put_coefficients-requires-clause-small
put_coefficients-requires-clause-small c = λ k lt.
    subst (λ (z : ℤ). unsigned_abs z ≤ 512 * 46344 ^ 2) (sym (c.even_sums.ensures.sums k lt))
    (basis_small (512 * 46344) (at c.column_of.result)
    (λ y y_lt. subst (λ (z : ℤ). unsigned_abs z ≤ 512 * 46344) (sym (c.column_of.ensures y y_lt)) (c.requires y c.loop-j.j y_lt (omega arith)))
    (2 * k) (omega arith))

pub loop-j-preserved : goal.loop-j-preserved
loop-j-preserved c = λ k j k_lt j_lt. ⊎_elim
    (λ (e : j ≡ c.loop-j.j). subst (λ (i : ℕ). StandsAt c.put_coefficients.new.sizes c.put_coefficients.new.negative (128 * k + i) (forward_of (λ y. lane_at c.args.rows.now y i) (2 * k))) (sym e)
    (subst (λ (z : ℤ). StandsAt c.put_coefficients.new.sizes c.put_coefficients.new.negative (128 * k + c.loop-j.j) z)
    (c.even_sums.ensures.sums k k_lt ∙ sum_of_equal 8 (basis (2 * k)) (at c.column_of.result) (λ y. lane_at c.args.rows.now y c.loop-j.j) c.column_of.ensures)
    (c.put_coefficients.ensures.placed k k_lt)))
    (λ (n : j ≢ c.loop-j.j). stands_kept (c.loop-j.invariant k j k_lt (omega arith)) (c.put_coefficients.ensures.kept k j (omega arith) n))
    (cases_eq j c.loop-j.j)
