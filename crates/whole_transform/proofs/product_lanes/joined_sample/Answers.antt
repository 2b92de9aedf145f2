use Rattle.std.proofs.Common.{◌≤◌, ◌^◌, ℤ, subst, sym, w32, FitsSigned, arith, lit<}
use Rattle.std.specs.Int.RustNames.{unsigned_abs}
use Rattle.std.proofs.lemmas.Int.{to_z-of_z}
use Rattle.whole_transform.proofs.WordLemmas.{small_fits}
use Rattle.whole_transform.proofs.Rounding.{carried_small, joined_sample_is}
use Rattle.whole_transform.proofs.product_lanes.joined_sample.Goals as goal

pub shifted_sum-requires-clause-sum : goal.shifted_sum-requires-clause-sum
shifted_sum-requires-clause-sum c =
    let low_fits = c.ranges.low in
    let high_fits = c.ranges.high in
    let high_small = c.requires.high in
    let carried : unsigned_abs c.shifted_sum-carried.result ≤ 2 ^ 15 =
    subst (λ (z : ℤ). unsigned_abs z ≤ 2 ^ 15) (sym (simp to_z-of_z at c.shifted_sum-carried.ensures)) (carried_small c.args.low c.requires.low) in
    let carried_fits = small_fits w32 c.shifted_sum-carried.result (2 ^ 15) (lit< tt) carried in
    simp to_z-of_z (omega arith)

pub returns : goal.returns
returns c =
    let low_fits = c.ranges.low in
    let high_fits = c.ranges.high in
    let carried : unsigned_abs c.shifted_sum-carried.result ≤ 2 ^ 15 =
    subst (λ (z : ℤ). unsigned_abs z ≤ 2 ^ 15) (sym (simp to_z-of_z at c.shifted_sum-carried.ensures)) (carried_small c.args.low c.requires.low) in
    let carried_fits = small_fits w32 c.shifted_sum-carried.result (2 ^ 15) (lit< tt) carried in
    let shifted_fits : FitsSigned w32 c.shifted_sum.result = record { sfits = c.shifted_sum.type_inv } in
    joined_sample_is c.args.high c.args.low c.shifted_sum-carried.result c.shifted_sum.result c.clamped_sample.result
    (simp to_z-of_z at c.shifted_sum-carried.ensures) (simp to_z-of_z at c.shifted_sum.ensures) (simp to_z-of_z at c.clamped_sample.ensures)
