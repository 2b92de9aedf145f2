use Rattle.std.proofs.Common.{add-zero}
use Rattle.prores_scan.proofs.EightLemmas.{below_eight}
use Rattle.prores_scan.proofs.half_steps.eight_from.Goals as goal

pub returns-clause-half_steps : goal.returns-clause-half_steps
returns-clause-half_steps c = below_eight _ (rw (add-zero c.args.from) c.half_steps_from.ensures.half_steps)
    c.half_steps_from-2.ensures.half_steps c.half_steps_from-3.ensures.half_steps c.half_steps_from-4.ensures.half_steps
    c.half_steps_from-5.ensures.half_steps c.half_steps_from-6.ensures.half_steps c.half_steps_from-7.ensures.half_steps
    c.half_steps_from-8.ensures.half_steps
