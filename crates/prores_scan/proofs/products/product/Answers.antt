use Rattle.std.proofs.Common.{◌≡◌, ◌*◌, ◌^◌, ◌≤◌, arith, w32, pos, ◌*ℤ◌}
use Rattle.std.specs.Int.RustNames.{unsigned_abs}
use Rattle.std.proofs.lemmas.Int.{ints, to_z-of_z, fits_signed_from_abs}
use Rattle.std.proofs.lemmas.Nat.{mul-le}
use Rattle.prores_scan.proofs.LevelLemmas.{multiplied}
use Rattle.prores_scan.proofs.products.product.Goals as goal

pub returns-then-product-le-MOST-clause-product :
    goal.returns-then-product-le-MOST-clause-product
returns-then-product-le-MOST-clause-product c =
    let factor = c.args.weight * c.args.scale in
    let low : factor ≤ 255 * 512 = mul-le c.args.weight c.args.scale 255 512 (omega arith) (omega arith) in
    let given : c.from-3.result ≡ pos factor = cc in
    let whole = multiplied c.args.level c.from-3.result factor c.requires.level (omega arith) given in
    let small : unsigned_abs (c.args.level *ℤ pos factor) ≤ 2 ^ 22 = rw (← whole) (omega (arith, ints)) in
    let fits = fits_signed_from_abs w32 (c.args.level *ℤ pos factor) (omega arith) in
    rw whole (to_z-of_z w32 (c.args.level *ℤ pos factor) fits)

pub returns-then-product-le-MOST-clause-in_range :
    goal.returns-then-product-le-MOST-clause-in_range
returns-then-product-le-MOST-clause-in_range c =
    let factor = c.args.weight * c.args.scale in
    let low : factor ≤ 255 * 512 = mul-le c.args.weight c.args.scale 255 512 (omega arith) (omega arith) in
    let given : c.from-3.result ≡ pos factor = cc in
    let whole = multiplied c.args.level c.from-3.result factor c.requires.level (omega arith) given in
    rw (← whole) (omega (arith, ints))
