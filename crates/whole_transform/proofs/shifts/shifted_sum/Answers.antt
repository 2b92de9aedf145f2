use Rattle.std.proofs.Common.{◌∙◌, ◌^◌, ℤ, ◌+ℤ◌, ap, w32, to_z, of_z, FitsSigned, arith}
use Rattle.std.specs.Int.Signed.{shr_z, mag_shr}
use Rattle.std.proofs.lemmas.Int.{to_z-of_z, ints, fits_signed_from_abs}
use Rattle.whole_transform.proofs.WordLemmas.{sum_kept_by}
use Rattle.whole_transform.proofs.Rounding.{floored_is}
use Rattle.whole_transform.proofs.shifts.shifted_sum.Goals as goal

pub returns : goal.returns
returns c =
    let sum_fits : FitsSigned w32 (c.args.a +ℤ c.args.b) = fits_signed_from_abs w32 _ (omega (arith, ints)) in
    let shifted_fits : FitsSigned w32 (shr_z (c.args.a +ℤ c.args.b) (2 ^ c.args.bits)) =
    record { sfits = omega (arith, mag_shr (c.args.a +ℤ c.args.b) (2 ^ c.args.bits), sum_fits.sfits) } in
    ap (λ (z : ℤ). to_z w32 (of_z w32 (shr_z z (2 ^ c.args.bits)))) (sum_kept_by w32 c.args.a c.args.b c.requires.sum)
    ∙ to_z-of_z w32 (shr_z (c.args.a +ℤ c.args.b) (2 ^ c.args.bits)) shifted_fits
    ∙ floored_is (c.args.a +ℤ c.args.b) (2 ^ c.args.bits)
