use Rattle.std.proofs.Common.{◌^◌, ◌+ℤ◌, ◌*ℤ◌, w64, arith, FitsSigned}
use Rattle.std.proofs.lemmas.Int.{ints, to_z-of_z, fits_signed_from_abs}
use Rattle.whole_transform.proofs.SumLemmas.{abs-mul-le}
use Rattle.whole_transform.proofs.block.add_product.Goals as goal

pub overflow_mul-result : goal.overflow_mul-result
overflow_mul-result c =
    let a_fits = c.ranges.a in let b_fits = c.ranges.b in
    let product = abs-mul-le c.args.a c.args.b 8035 (2 ^ 40) c.requires.a c.requires.b in
    let fits : FitsSigned w64 (c.args.a *ℤ c.args.b) = fits_signed_from_abs w64 _ (omega arith) in
    simp to_z-of_z fits

pub overflow_add-result : goal.overflow_add-result
overflow_add-result c =
    let sum_fits = c.ranges.sum in let a_fits = c.ranges.a in let b_fits = c.ranges.b in
    let product = abs-mul-le c.args.a c.args.b 8035 (2 ^ 40) c.requires.a c.requires.b in
    let small = c.requires.sum in
    let product_fits : FitsSigned w64 (c.args.a *ℤ c.args.b) = fits_signed_from_abs w64 _ (omega arith) in
    let fits : FitsSigned w64 (c.args.sum +ℤ c.args.a *ℤ c.args.b) = fits_signed_from_abs w64 _ (omega (arith, ints)) in
    simp to_z-of_z fits

pub returns-clause-value : goal.returns-clause-value
returns-clause-value c =
    let sum_fits = c.ranges.sum in let a_fits = c.ranges.a in let b_fits = c.ranges.b in
    let product = abs-mul-le c.args.a c.args.b 8035 (2 ^ 40) c.requires.a c.requires.b in
    let small = c.requires.sum in
    let product_fits : FitsSigned w64 (c.args.a *ℤ c.args.b) = fits_signed_from_abs w64 _ (omega arith) in
    let fits : FitsSigned w64 (c.args.sum +ℤ c.args.a *ℤ c.args.b) = fits_signed_from_abs w64 _ (omega (arith, ints)) in
    simp to_z-of_z

pub returns-clause-small : goal.returns-clause-small
returns-clause-small c =
    let product = abs-mul-le c.args.a c.args.b 8035 (2 ^ 40) c.requires.a c.requires.b in
    rw (returns-clause-value c) (omega (arith, ints))
