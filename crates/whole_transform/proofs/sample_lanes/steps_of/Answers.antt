use Rattle.std.proofs.Common.{w32, FitsSigned, arith}
use Rattle.std.proofs.lemmas.Int.{to_z-of_z}
use Rattle.whole_transform.proofs.SizeLemmas.{carried_short, steps_of_total}
use Rattle.whole_transform.proofs.sample_lanes.steps_of.Goals as goal

pub shifted_sum-requires-2-clause-sum : goal.shifted_sum-requires-2-clause-sum
shifted_sum-requires-2-clause-sum c =
    let high_fits = c.ranges.high in let low_fits = c.ranges.low in let sign_fits = c.ranges.sign in
    let carried_fits : FitsSigned w32 c.shifted_sum.result = record { sfits = c.shifted_sum.type_inv } in
    let small = carried_short c.args.low c.args.sign c.shifted_sum.result c.requires.low c.requires.sign (simp to_z-of_z at c.shifted_sum.ensures) in
    simp to_z-of_z (omega (arith, c.requires.high))

pub returns : goal.returns
returns c =
    let high_fits = c.ranges.high in let low_fits = c.ranges.low in let sign_fits = c.ranges.sign in
    let carried_fits : FitsSigned w32 c.shifted_sum.result = record { sfits = c.shifted_sum.type_inv } in
    let steps_fits : FitsSigned w32 c.shifted_sum-2.result = record { sfits = c.shifted_sum-2.type_inv } in
    simp to_z-of_z (steps_of_total c.args.high c.args.low c.args.sign c.shifted_sum.result c.shifted_sum-2.result
    (simp to_z-of_z at c.shifted_sum.ensures) (simp to_z-of_z at c.shifted_sum-2.ensures))
