use Rattle.std.proofs.Common.{◌≡◌, ◌≢◌, ◌∙◌, ◌+◌, ◌*◌, ℕ, ℤ, pos, ◌*ℤ◌, ap, sym, subst, ⊎_elim, arith}
use Rattle.std.proofs.lemmas.Bool.{cases_eq}
use Rattle.whole_transform.specs.Sums.{sum_to}
use Rattle.whole_transform.specs.Transform.{basis, lane_cell, sample}
use Rattle.whole_transform.proofs.SumLemmas.{sum_ext}
use Rattle.whole_transform.proofs.product_lanes.lane_rows.Goals as goal

pub loop-y-preserved : goal.loop-y-preserved
loop-y-preserved c = record {
  samples = λ b y x b_lt y_lt x_lt. ⊎_elim
      (λ (e : y ≡ c.loop-y.y). subst (λ (i : ℕ). lane_cell c.lane_row.new.blocks b i x ≡ pos (sample (sum_to 8 (λ u. basis u x *ℤ lane_cell c.args.blocks.now b i u)))) (sym e)
      (c.lane_row.ensures.samples b x b_lt x_lt ∙ ap (λ (z : ℤ). pos (sample z)) (sum_ext 8 (λ u. basis u x *ℤ lane_cell c.loop-y.blocks b c.loop-y.y u) (λ u. basis u x *ℤ lane_cell c.args.blocks.now b c.loop-y.y u)
      (λ u lt. ap (λ (z : ℤ). basis u x *ℤ z) (c.loop-y.invariant.left c.loop-y.y (8 * u + b) (omega arith) (omega arith) (omega arith))))))
      (λ (n : y ≢ c.loop-y.y). c.lane_row.ensures.kept y (8 * x + b) (omega arith) n ∙ c.loop-y.invariant.samples b y x b_lt (omega arith) x_lt)
      (cases_eq y c.loop-y.y);
  left = λ y j le y_lt j_lt. c.lane_row.ensures.kept y j j_lt (omega arith) ∙ c.loop-y.invariant.left y j (omega arith) y_lt j_lt;
}
