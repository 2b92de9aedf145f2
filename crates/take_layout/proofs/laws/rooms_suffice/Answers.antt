use Rattle.take_layout.specs.laws.Takes.{lead_fits, tail_fits}
use Rattle.take_layout.proofs.laws.rooms_suffice.Goals as goal

pub returns-clause-lead : goal.returns-clause-lead
returns-clause-lead g c = λ cfg places unit len ranged lie is long.
    lead_fits g.L.TakeLayout cfg cfg.max_frames places unit len ranged.max_frames.least lie is long
    (λ us u are. g.met.L.TakeLayout.lead_fits cfg us u ranged are)

pub returns-clause-tail : goal.returns-clause-tail
returns-clause-tail g c = λ cfg places len ranged lie long.
    tail_fits g.L.TakeLayout cfg cfg.max_frames places len lie long (λ us are. g.met.L.TakeLayout.tail_fits cfg us ranged are)
