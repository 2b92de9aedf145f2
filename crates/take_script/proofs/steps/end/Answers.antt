use Rattle.std.proofs.Common.{ap, ◌∙◌}
use Rattle.take_state.specs.Seen.{published}
use Rattle.take_script.proofs.StepLemmas.{published_behind}
use Rattle.take_script.proofs.steps.end.Goals as goal

pub returns-clause-cause : goal.returns-clause-cause
returns-clause-cause g c = ap (λ s. g.D.TakeDisk.fault_count s.disk) (c.acknowledge.ensures.stands c.args.mark c.requires.opened)

pub returns-clause-kept : goal.returns-clause-kept
returns-clause-kept g c =
    let stands = c.acknowledge.ensures.stands c.args.mark c.requires.opened in
    (ap (λ s. s.config) stands, ap (λ s. published s) stands ∙ published_behind c.args.take.now.history c.args.mark.count)
