use Rattle.std.proofs.Common.{arith, w32, ◌+ℤ◌, FitsSigned}
use Rattle.std.proofs.lemmas.Int.{ints, to_z-of_z, fits_signed_from_abs}
use Rattle.whole_transform.proofs.narrow.four_products.Goals as goal

pub returns-clause-value : goal.returns-clause-value
returns-clause-value c =
    let p = c.ranges.p in let a = c.ranges.a in let q = c.ranges.q in let b = c.ranges.b in
    let r = c.ranges.r in let third = c.ranges.c in let s = c.ranges.s in let d = c.ranges.d in
    let first_fits : FitsSigned w32 c.two_products.result = fits_signed_from_abs w32 _ (omega (arith, c.two_products.ensures.small)) in
    let second_fits : FitsSigned w32 c.two_products-2.result = fits_signed_from_abs w32 _ (omega (arith, c.two_products-2.ensures.small)) in
    let fits : FitsSigned w32 (c.two_products.result +ℤ c.two_products-2.result) = fits_signed_from_abs w32 _ (omega (arith, ints, c.two_products.ensures.small, c.two_products-2.ensures.small)) in
    simp to_z-of_z (rw (c.two_products.ensures.value, c.two_products-2.ensures.value) (simp to_z-of_z))
