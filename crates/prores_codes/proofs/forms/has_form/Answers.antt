use Rattle.std.proofs.Common.{rules, ◌+◌, ◌*◌, ◌≤◌, ℕ, arith, subst}
use Rattle.prores_codes.specs.Codes.{HasDigits, Fits, parameters, short_count, long_number}
use Rattle.prores_codes.specs.laws.Lengths.{narrow_code, short_spells, long_spells}
use Rattle.prores_codes.proofs.Made.{fits_digits}
use Rattle.prores_codes.proofs.forms.has_form.Goals as goal

pub returns-then-n-short_count : goal.returns-then-n-short_count
returns-then-n-short_count c =
    let code = parameters c.args.code in
    let there : Fits code c.args.n = (_, short_spells code c.args.n (narrow_code c.args.code) (omega (arith, c.short_count.ensures))) in
    ((λ _. there), (λ _. search rules))

pub returns : goal.returns
returns c =
    let code = parameters c.args.code in
    let n = c.args.n in
    let large : short_count code ≤ n = omega (arith, c.short_count.ensures) in
    let P : ℕ → Type 0 = λ m. HasDigits c.digits_of.result m in
    let has : HasDigits c.digits_of.result (long_number code n) = subst P c.long_number.ensures c.digits_of.ensures.digits in
    let there : code.a + 2 * c.digits_of.result ≤ 32 + code.e → Fits code n = λ h. (_, long_spells code n c.digits_of.result large has h) in
    let back : Fits code n → code.a + 2 * c.digits_of.result ≤ 32 + code.e = λ fits. fits_digits code n c.digits_of.result fits large has in
    grind (arith, there, back)
