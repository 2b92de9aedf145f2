use Rattle.std.proofs.Common.{◌≡◌, ◌≢◌, ◌≤◌, ◌∙◌, ◌+◌, ◌*◌, ◌^◌, ℕ, ℤ, pos, ◌*ℤ◌, ap, sym, subst, ⊎_elim, arith}
use Rattle.std.specs.Int.RustNames.{unsigned_abs}
use Rattle.std.proofs.lemmas.Bool.{cases_eq}
use Rattle.whole_transform.specs.Sums.{at, sum_to}
use Rattle.whole_transform.specs.Transform.{basis, lane_cell, sample}
use Rattle.whole_transform.proofs.SumLemmas.{sum_ext}
use Rattle.whole_transform.proofs.product_lanes.lane_row.Goals as goal

pub samples_of_sums-samples-requires : goal.samples_of_sums-samples-requires
samples_of_sums-samples-requires c = λ u lt. subst (λ (z : ℤ). unsigned_abs z ≤ 2 ^ 15 * 43284) (sym (c.lane_row_of.ensures u lt ∙ c.loop-lane.invariant.left c.loop-lane.lane u (omega arith) (omega arith) lt))
    (c.requires.small (8 * u + c.loop-lane.lane) (omega arith))

pub loop-lane-preserved : goal.loop-lane-preserved
loop-lane-preserved c = record {
  samples = λ b x b_lt x_lt. ⊎_elim
      (λ (e : b ≡ c.loop-lane.lane). subst (λ (i : ℕ). lane_cell c.put_lane_samples.new.blocks i c.args.row x ≡ pos (sample (sum_to 8 (λ u. basis u x *ℤ lane_cell c.args.blocks.now i c.args.row u)))) (sym e)
      (c.put_lane_samples.ensures.placed x x_lt ∙ ap pos (c.samples_of_sums-samples.ensures x x_lt
      ∙ ap sample (sum_ext 8 (λ u. basis u x *ℤ at c.lane_row_of.result u) (λ u. basis u x *ℤ lane_cell c.args.blocks.now c.loop-lane.lane c.args.row u)
      (λ u lt. ap (λ (z : ℤ). basis u x *ℤ z) (c.lane_row_of.ensures u lt ∙ c.loop-lane.invariant.left c.loop-lane.lane u (omega arith) (omega arith) lt))))))
      (λ (n : b ≢ c.loop-lane.lane). c.put_lane_samples.ensures.lanes b x (omega arith) x_lt n ∙ c.loop-lane.invariant.samples b x (omega arith) x_lt)
      (cases_eq b c.loop-lane.lane);
  left = λ b u le b_lt u_lt. c.put_lane_samples.ensures.lanes b u b_lt u_lt (omega arith) ∙ c.loop-lane.invariant.left b u (omega arith) b_lt u_lt;
  kept = λ y j j_lt n. c.put_lane_samples.ensures.rows y j j_lt n ∙ c.loop-lane.invariant.kept y j j_lt n;
}
