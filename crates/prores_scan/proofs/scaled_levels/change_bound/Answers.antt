use Rattle.std.proofs.Common.{◌-◌, ◌/◌, ◌*◌, ◌≡◌, ap, ◌∙◌, arith}
use Rattle.prores_scan.specs.laws.ChangeLaws.{change_is}
use Rattle.prores_scan.proofs.scaled_levels.change_bound.Goals as goal

pub returns-else-change-eq0-clause-apart : goal.returns-else-change-eq0-clause-apart
returns-else-change-eq0-clause-apart c = λ scale twice.
    let some = c.args.double.exact.least in
    let change = c.change-change.result in
    let quotient : c.quotient.result ≡ (change - 1) / (2 * scale) = c.quotient.ensures ∙ ap (λ n. (change - 1) / n) twice in
    rw quotient (change_is c.args.from c.args.to scale change (omega arith) (omega arith) c.change-change.ensures.change)
