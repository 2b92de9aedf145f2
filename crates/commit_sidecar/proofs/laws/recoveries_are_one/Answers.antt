use Rattle.commit_sidecar.proofs.RecoverLemmas.{recovers_one}
use Rattle.commit_sidecar.proofs.laws.recoveries_are_one.Goals as goal

pub returns : goal.returns
returns g c = λ areas cfg other units others r s. recovers_one g.L.TakeLayout (λ k us. g.met.L.TakeLayout.closes k us) c.files_are_one.ensures.one areas cfg other units others r s
