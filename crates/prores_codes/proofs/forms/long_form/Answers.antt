use Rattle.std.proofs.Common.{rules, ◌≡◌, ◌^◌, ◌<◌, ◌≤◌, ℕ, arith, subst}
use Rattle.prores_codes.specs.Codes.{HasDigits, parameters, long_number}
use Rattle.prores_codes.specs.laws.Digits.{digits_more, pow_le}
use Rattle.prores_codes.proofs.Made.{long_is_form, fits_digits}
use Rattle.prores_codes.proofs.forms.long_form.Goals as goal

has : (d m n : ℕ) → HasDigits d m → m ≡ n → HasDigits d n
has d m n is e = let P : ℕ → Type 0 = λ k. HasDigits d k in subst P e is

pub overflow_sub-result : goal.overflow_sub-result
overflow_sub-result c =
    let code = parameters c.args.code in
    let binary = has c.digits_of.result c.long_number-number.result (long_number code c.args.n) c.digits_of.ensures.digits c.long_number-number.ensures in
    omega (arith, digits_more c.digits_of.result code.e (long_number code c.args.n) binary (omega arith))

pub overflow_cast-result : goal.overflow_cast-result
overflow_cast-result c =
    let code = parameters c.args.code in
    let d = c.digits_of.result in
    let binary = has d c.long_number-number.result (long_number code c.args.n) c.digits_of.ensures.digits c.long_number-number.ensures in
    let few : d ≤ 32 = omega (arith, fits_digits code c.args.n d c.requires.fits c.requires.large binary, c.args.code.golomb) in
    let small : c.long_number-number.result < 2 ^ 32 = omega (arith, c.digits_of.ensures.digits.all, pow_le d 32 few) in
    search rules

pub returns : goal.returns
returns c =
    let code = parameters c.args.code in
    let d = c.digits_of.result in
    let binary = has d c.long_number-number.result (long_number code c.args.n) c.digits_of.ensures.digits c.long_number-number.ensures in
    rw c.long_number-number.ensures (long_is_form code c.args.n d c.requires.large binary (fits_digits code c.args.n d c.requires.fits c.requires.large binary))
