use Rattle.std.proofs.Common.{◌≡◌, ◌+◌, ◌*◌, ◌/◌, ◌^◌, ◌<◌, ap, ap₂, ◌∙◌, arith}
use Rattle.std.specs.Int.RustNames.{unsigned_abs}
use Rattle.std.proofs.lemmas.Nat.{div_below}
use Rattle.std.proofs.Math.Nat.{div-div-eq-div-mul}
use Rattle.prores_scan.proofs.half_steps.half_steps_from.Goals as goal

pub returns-clause-half_steps : goal.returns-clause-half_steps
returns-clause-half_steps c = λ g sized.
    let weight = c.args.weight.divisor in
    let count : c.quotient.result ≡ unsigned_abs g / (2 ^ 25 * weight) =
    c.quotient.ensures ∙ (ap (λ n. n / weight) sized.whole ∙ div-div-eq-div-mul (unsigned_abs g) (2 ^ 25) weight) in
    ap₂ (λ n bit. 2 * n + bit) count sized.signed

pub returns-clause-short : goal.returns-clause-short
returns-clause-short c =
    let small : c.args.size / c.args.weight.divisor < 8201 = div_below c.args.size c.args.weight.divisor 8201 (omega arith) (omega arith) in
    omega (arith, small, c.quotient.ensures)
