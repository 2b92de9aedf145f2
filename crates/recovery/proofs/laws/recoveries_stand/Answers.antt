use Rattle.commit_sidecar.proofs.HeadLemmas.{no_refusal}
use Rattle.recovery.proofs.StandLemmas.{leads_stand, not_refused, refused_once}
use Rattle.recovery.proofs.StayLemmas.{kept_image}
use Rattle.recovery.proofs.laws.recoveries_stand.Goals as goal

pub returns-clause-closed : goal.returns-clause-closed
returns-clause-closed g c = λ disk now was image done told leads left.
    leads_stand g.L.TakeLayout done was image now leads (λ kept. kept_image now kept image (g.met.D.TakeDisk.crash disk now image told left))

pub returns-clause-refused : goal.returns-clause-refused
returns-clause-refused g c =
    let says = c.files_say_one_thing.ensures in
    not_refused g.L.TakeLayout says.one says.said c.essences_have_one_answer.ensures.named

pub returns-clause-once : goal.returns-clause-once
returns-clause-once g c =
    let says = c.files_say_one_thing.ensures in
    refused_once g.L.TakeLayout says.one says.said says.refused c.essences_have_one_answer.ensures.damaged

pub returns-clause-headed : goal.returns-clause-headed
returns-clause-headed g c = λ areas cfg rest at other is has refuses. no_refusal areas.commits rest cfg at is has refuses.0
