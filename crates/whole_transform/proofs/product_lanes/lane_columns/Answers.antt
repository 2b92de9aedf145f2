use Rattle.std.proofs.Common.{◌≡◌, ◌≢◌, ◌≤◌, ◌∙◌, ◌+◌, ◌*◌, ◌^◌, ℕ, ℤ, ◌*ℤ◌, ap, sym, subst, ⊎_elim, arith}
use Rattle.std.specs.Int.RustNames.{unsigned_abs}
use Rattle.std.proofs.lemmas.Bool.{cases_eq}
use Rattle.whole_transform.specs.Sums.{at, sum_to}
use Rattle.whole_transform.specs.Transform.{basis}
use Rattle.whole_transform.proofs.SumLemmas.{sum_ext}
use Rattle.whole_transform.proofs.Halves.{column_small}
use Rattle.whole_transform.proofs.product_lanes.lane_columns.Goals as goal

pub loop-j-preserved : goal.loop-j-preserved
loop-j-preserved c = record {
  sums = λ y j y_lt j_lt. ⊎_elim
      (λ (e : j ≡ c.loop-j.j). subst (λ (i : ℕ). at c.put_lane_column.new.columns (64 * y + i) ≡ sum_to 8 (λ v. basis v y *ℤ at c.args.products.now (64 * v + i))) (sym e)
      (c.put_lane_column.ensures.placed y y_lt ∙ c.inverse_eight.ensures y y_lt
      ∙ sum_ext 8 (λ v. basis v y *ℤ at c.lane_column_of.result v) (λ v. basis v y *ℤ at c.args.products.now (64 * v + c.loop-j.j)) (λ v lt. ap (λ (z : ℤ). basis v y *ℤ z) (c.lane_column_of.ensures.values v lt))))
      (λ (n : j ≢ c.loop-j.j). c.put_lane_column.ensures.kept y j (omega arith) n ∙ c.loop-j.invariant.sums y j y_lt (omega arith))
      (cases_eq j c.loop-j.j);
  small = λ y j y_lt j_lt. ⊎_elim
      (λ (e : j ≡ c.loop-j.j). subst (λ (i : ℕ). unsigned_abs (at c.put_lane_column.new.columns (64 * y + i)) ≤ 2 ^ 15 * 43284) (sym e)
      (subst (λ (z : ℤ). unsigned_abs z ≤ 2 ^ 15 * 43284) (sym (c.put_lane_column.ensures.placed y y_lt ∙ c.inverse_eight.ensures y y_lt))
      (column_small (2 ^ 15) (at c.lane_column_of.result) c.lane_column_of.ensures.small y y_lt)))
      (λ (n : j ≢ c.loop-j.j). subst (λ (z : ℤ). unsigned_abs z ≤ 2 ^ 15 * 43284) (sym (c.put_lane_column.ensures.kept y j (omega arith) n)) (c.loop-j.invariant.small y j y_lt (omega arith)))
      (cases_eq j c.loop-j.j);
}
