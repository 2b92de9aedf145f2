use Rattle.std.proofs.Common.{◌≡◌, ◌≢◌, ◌∙◌, ◌+◌, ◌*◌, ℕ, inl, inr, sym, subst, ⊎_elim, arith}
use Rattle.std.proofs.lemmas.Bool.{cases_eq}
use Rattle.whole_transform.specs.inner.Passes.{forward_of}
use Rattle.whole_transform.specs.Sums.{at}
use Rattle.whole_transform.specs.Transform.{basis, lane_cell}
use Rattle.whole_transform.proofs.SumLemmas.{sum_of_equal}
use Rattle.whole_transform.proofs.sample_lanes.forward_row.Goals as goal

pub loop-lane-preserved : goal.loop-lane-preserved
loop-lane-preserved c = record {
  sums = λ b u b_lt u_lt. ⊎_elim
      (λ (e : b ≡ c.loop-lane.lane). subst (λ (i : ℕ). lane_cell c.put_lane_row.new.rows i c.args.row u ≡ forward_of (λ x. at c.args.values.now (8 * x + i)) u) (sym e)
      (c.put_lane_row.ensures.placed u u_lt ∙ c.forward_eight.ensures u u_lt
      ∙ sum_of_equal 8 (basis u) (at c.lane_of.result) (λ x. at c.args.values.now (8 * x + c.loop-lane.lane)) c.lane_of.ensures))
      (λ (n : b ≢ c.loop-lane.lane). c.put_lane_row.ensures.kept b c.args.row u (omega arith) u_lt (inl n) ∙ c.loop-lane.invariant.sums b u (omega arith) u_lt)
      (cases_eq b c.loop-lane.lane);
  kept = λ b y u b_lt u_lt n. c.put_lane_row.ensures.kept b y u b_lt u_lt (inr n) ∙ c.loop-lane.invariant.kept b y u b_lt u_lt n;
}
