use Rattle.std.proofs.Common.{pos, ◌+ℤ◌, ◌*ℤ◌, w32, FitsSigned, arith}
use Rattle.std.proofs.lemmas.Int.{ints, to_z-of_z}
use Rattle.whole_transform.proofs.SizeLemmas.{size_below, size_above}
use Rattle.whole_transform.proofs.sample_lanes.size_and_sign.Goals as goal

pub overflow_cast-result : goal.overflow_cast-result
overflow_cast-result c =
    let high_fits = c.ranges.high in let low_fits = c.ranges.low in
    let sign_fits : FitsSigned w32 c.sign_of-sign.result = record { sfits = c.sign_of-sign.type_inv } in
    let steps_fits : FitsSigned w32 c.steps_of-steps.result = record { sfits = c.steps_of-steps.type_inv } in
    let size = size_below (pos 65536 *ℤ c.args.high +ℤ c.args.low) c.sign_of-sign.result c.steps_of-steps.result c.requires.small
    (simp to_z-of_z at c.sign_of-sign.ensures) (simp to_z-of_z at c.steps_of-steps.ensures) (omega (arith, ints, c.if-sign-lt0.true)) in
    let size_fits = size.fits in
    simp to_z-of_z (omega (arith, ints, size.least), omega (arith, size.most))

pub overflow_cast-result-else-sign-lt0 : goal.overflow_cast-result-else-sign-lt0
overflow_cast-result-else-sign-lt0 c =
    let high_fits = c.ranges.high in let low_fits = c.ranges.low in
    let sign_fits : FitsSigned w32 c.sign_of-sign.result = record { sfits = c.sign_of-sign.type_inv } in
    let steps_fits : FitsSigned w32 c.steps_of-steps.result = record { sfits = c.steps_of-steps.type_inv } in
    let size = size_above (pos 65536 *ℤ c.args.high +ℤ c.args.low) c.sign_of-sign.result c.steps_of-steps.result c.requires.small
    (simp to_z-of_z at c.sign_of-sign.ensures) (simp to_z-of_z at c.steps_of-steps.ensures) (omega (arith, ints, c.if-sign-lt0.false)) in
    let size_fits = size.fits in
    simp to_z-of_z (omega (arith, ints, size.least), omega (arith, size.most))

pub returns-then-sign-lt0-clause-size : goal.returns-then-sign-lt0-clause-size
returns-then-sign-lt0-clause-size c =
    let high_fits = c.ranges.high in let low_fits = c.ranges.low in
    let sign_fits : FitsSigned w32 c.sign_of-sign.result = record { sfits = c.sign_of-sign.type_inv } in
    let steps_fits : FitsSigned w32 c.steps_of-steps.result = record { sfits = c.steps_of-steps.type_inv } in
    let size = size_below (pos 65536 *ℤ c.args.high +ℤ c.args.low) c.sign_of-sign.result c.steps_of-steps.result c.requires.small
    (simp to_z-of_z at c.sign_of-sign.ensures) (simp to_z-of_z at c.steps_of-steps.ensures) (omega (arith, ints, c.if-sign-lt0.true)) in
    let size_fits = size.fits in
    simp to_z-of_z size.same

pub returns-else-sign-lt0-clause-size : goal.returns-else-sign-lt0-clause-size
returns-else-sign-lt0-clause-size c =
    let high_fits = c.ranges.high in let low_fits = c.ranges.low in
    let sign_fits : FitsSigned w32 c.sign_of-sign.result = record { sfits = c.sign_of-sign.type_inv } in
    let steps_fits : FitsSigned w32 c.steps_of-steps.result = record { sfits = c.steps_of-steps.type_inv } in
    let size = size_above (pos 65536 *ℤ c.args.high +ℤ c.args.low) c.sign_of-sign.result c.steps_of-steps.result c.requires.small
    (simp to_z-of_z at c.sign_of-sign.ensures) (simp to_z-of_z at c.steps_of-steps.ensures) (omega (arith, ints, c.if-sign-lt0.false)) in
    let size_fits = size.fits in
    simp to_z-of_z size.same
