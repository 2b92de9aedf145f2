use Rattle.std.proofs.Common.{◌≡◌, ◌≢◌, ◌∙◌, ◌≤◌, ◌<◌, ◌+◌, ◌*◌, ◌/◌, ◌%◌, ℕ, ℤ, sym, subst, ⊎_elim, arith}
use Rattle.std.specs.Int.RustNames.{unsigned_abs}
use Rattle.std.proofs.lemmas.Bool.{cases_eq}
use Rattle.whole_transform.specs.inner.Passes.{forward_of, lane_at}
use Rattle.whole_transform.specs.Sums.{at}
use Rattle.whole_transform.specs.Transform.{basis, lane_cell, lane_centred}
use Rattle.whole_transform.proofs.Halves.{basis_small}
use Rattle.whole_transform.proofs.SumLemmas.{lane_centred_small, sum_of_equal}
use Rattle.whole_transform.proofs.sample_lanes.forward_rows.Goals as goal

pub loop-y-preserved : goal.loop-y-preserved
loop-y-preserved c = λ b y u b_lt y_lt u_lt. ⊎_elim
    (λ (e : y ≡ c.loop-y.y). subst (λ (i : ℕ). lane_cell c.forward_row.new.rows b i u ≡ forward_of (lane_centred c.args.samples.now b i) u) (sym e)
    (c.forward_row.ensures.sums b u b_lt u_lt
    ∙ sum_of_equal 8 (basis u) (λ x. at c.centre_row.new.values (8 * x + b)) (lane_centred c.args.samples.now b c.loop-y.y) (λ x lt. c.centre_row.ensures.values (8 * x + b) (omega arith))))
    (λ (n : y ≢ c.loop-y.y). c.forward_row.ensures.kept b y u b_lt u_lt n ∙ c.loop-y.invariant b y u b_lt (omega arith) u_lt)
    (cases_eq y c.loop-y.y)

pub returns-clause-small : goal.returns-clause-small
returns-clause-small c = λ y j y_lt j_lt.
    let b = j % 8 in let u = j / 8 in
    let e : 8 * u + b ≡ j = omega arith in
    let u_lt : u < 8 = omega arith in
    subst (λ (i : ℕ). unsigned_abs (lane_at c.loop-y.rows y i) ≤ 512 * 46344) e
    (subst (λ (z : ℤ). unsigned_abs z ≤ 512 * 46344) (sym (c.loop-y.invariant b y u (omega arith) (omega arith) u_lt))
    (basis_small 512 (lane_centred c.args.samples.now b y) (λ x lt. lane_centred_small c.args.samples.now b y x (c.requires (64 * y + (8 * x + b)))) u u_lt))
