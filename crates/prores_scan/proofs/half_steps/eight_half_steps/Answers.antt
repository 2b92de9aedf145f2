use Rattle.std.proofs.Common.{◌∙◌, arith}
use Rattle.prores_scan.proofs.EightLemmas.{eight_short}
use Rattle.prores_scan.proofs.half_steps.eight_half_steps.Goals as goal

pub returns-clause-half_steps : goal.returns-clause-half_steps
returns-clause-half_steps c = λ b lt g sized. c.put_eight.ensures.placed b lt ∙ c.eight_from.ensures.half_steps b lt g sized

pub returns-clause-short : goal.returns-clause-short
returns-clause-short c = λ short.
    eight_short c.args.out.now c.put_eight.new.out c.eight_from.result c.args.to (omega arith) short
    (λ b lt. c.eight_from.ensures.short b (omega arith)) c.put_eight.ensures.placed c.put_eight.ensures.kept
