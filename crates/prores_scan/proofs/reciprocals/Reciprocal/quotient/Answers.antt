use Rattle.std.proofs.Common.{◌≡◌, ◌*◌, ◌/◌, ◌^◌, ℕ, ap, ◌∙◌}
use Rattle.prores_scan.proofs.ReciprocalLemmas.{quotient_is}
use Rattle.prores_scan.proofs.reciprocals.Reciprocal.quotient.Goals as goal

pub returns : goal.returns
returns c =
    let product : c.from.result * c.from-2.result ≡ c.args.x * c.args.self.factor = cc in
    ap (λ (n : ℕ). n / 2 ^ 16 / 2 ^ c.args.self.shift) product
    ∙ quotient_is c.args.x c.args.self.divisor c.args.self.factor c.args.self.shift c.args.self.exact c.requires
