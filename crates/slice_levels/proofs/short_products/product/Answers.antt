use Rattle.std.proofs.Common.{◌≤◌, ◌^◌, rules, arith, w32, FitsSigned}
use Rattle.std.specs.Int.RustNames.{unsigned_abs}
use Rattle.std.proofs.lemmas.Int.{to_z-of_z, fits_signed_mul}
use Rattle.slice_levels.proofs.short_products.product.Goals as goal

pub overflow_mul-result : goal.overflow_mul-result
overflow_mul-result c =
    let one : FitsSigned w32 c.from.result = search rules in
    let two : FitsSigned w32 c.from-2.result = search rules in
    let a : unsigned_abs c.from.result ≤ 2 ^ 15 = search rules in
    let b : unsigned_abs c.from-2.result ≤ 2 ^ 15 = search rules in
    simp to_z-of_z (fits_signed_mul w32 c.from.result c.from-2.result (2 ^ 15) (2 ^ 15) a b (omega arith))
