use Rattle.std.proofs.Common.{◌≡◌, ◌∙◌, ◌≤◌, ◌<◌, ◌+◌, ◌*◌, ◌/◌, ◌%◌, ℕ, ℤ, subst, arith, lit<, slice_index}
use Rattle.whole_transform.specs.inner.Passes.{forward_of, lane_at}
use Rattle.whole_transform.specs.Transform.{StandsAt, basis, forward_sum, lane_centred}
use Rattle.whole_transform.proofs.EachLemmas.{below_eight}
use Rattle.whole_transform.proofs.SizeLemmas.{forward_small, stands_in_range, stands_kept}
use Rattle.whole_transform.proofs.SumLemmas.{rows_then_columns, sum_of_equal}
use Rattle.whole_transform.proofs.sample_lanes.forward_lanes.Goals as goal

pub returns-clause-coefficients : goal.returns-clause-coefficients
unfolding forward_sum
returns-clause-coefficients c = λ b v u b_lt v_lt u_lt.
    let place : 8 * u + b < 64 = omega arith in
    let is = λ (v : ℕ). sum_of_equal 8 (basis v) (λ y. lane_at c.forward_rows.new.rows y (8 * u + b)) (λ y. forward_of (lane_centred c.args.samples.now b y) u)
    (λ y y_lt. c.forward_rows.ensures.sums b y u b_lt y_lt u_lt) ∙ rows_then_columns 8 8 (basis v) (basis u) (lane_centred c.args.samples.now b) in
    let at_place = λ (k v : ℕ) (stands : StandsAt c.odd_columns.new.sizes c.odd_columns.new.negative k (forward_of (λ y. lane_at c.forward_rows.new.rows y (8 * u + b)) v)).
    subst (λ (z : ℤ). StandsAt c.odd_columns.new.sizes c.odd_columns.new.negative k z) (is v) stands in
    let even = λ (k : ℕ) (lt : k < 4). stands_kept (c.even_columns.ensures k (8 * u + b) lt place) (c.odd_columns.ensures.even k (8 * u + b) place) in
    let odd = λ (k : ℕ) (lt : k < 4). c.odd_columns.ensures.odd k (8 * u + b) lt place in
    let next = λ (k : ℕ). let e : 128 * k + (64 + (8 * u + b)) ≡ 64 * (2 * k + 1) + (8 * u + b) = omega arith in e in
    let Odd = λ (v k : ℕ). StandsAt c.odd_columns.new.sizes c.odd_columns.new.negative k (forward_sum (lane_centred c.args.samples.now b) v u) in
    below_eight (λ v. StandsAt c.odd_columns.new.sizes c.odd_columns.new.negative (64 * v + (8 * u + b)) (forward_sum (lane_centred c.args.samples.now b) v u))
    (at_place _ 0 (even 0 (lit< tt))) (subst (Odd 1) (next 0) (at_place _ 1 (odd 0 (lit< tt))))
    (at_place _ 2 (even 1 (lit< tt))) (subst (Odd 3) (next 1) (at_place _ 3 (odd 1 (lit< tt))))
    (at_place _ 4 (even 2 (lit< tt))) (subst (Odd 5) (next 2) (at_place _ 5 (odd 2 (lit< tt))))
    (at_place _ 6 (even 3 (lit< tt))) (subst (Odd 7) (next 3) (at_place _ 7 (odd 3 (lit< tt))))
    v v_lt

pub returns-clause-small : goal.returns-clause-small
returns-clause-small c = λ b v u b_lt v_lt u_lt. forward_small c.args.samples.now b v u c.requires.samples v_lt u_lt

pub returns-clause-range : goal.returns-clause-range
returns-clause-range c = λ k lt.
    let v = k / 64 in let u = k % 64 / 8 in let b = k % 8 in
    let e : 64 * v + (8 * u + b) ≡ k = omega arith in
    let v_lt : v < 8 = omega arith in let u_lt : u < 8 = omega arith in let b_lt : b < 8 = omega arith in
    subst (λ (i : ℕ). (slice_index c.odd_columns.new.sizes i ≤ 32772) × (slice_index c.odd_columns.new.negative i ≤ 1)) e
    (stands_in_range (returns-clause-coefficients c b v u b_lt v_lt u_lt) (returns-clause-small c b v u b_lt v_lt u_lt))
