use Rattle.take_layout.specs.laws.Files.{Laws, begins, behind, next, places_begin}
use Rattle.take_layout.proofs.laws.growing_begins.Goals as goal

pub returns-clause-begins : goal.returns-clause-begins
returns-clause-begins g c = λ cfg units more.
    let met = g.met.L.TakeLayout in
    let laws : Laws g.L.TakeLayout cfg =
    record { starts = met.starts cfg; grows = met.grows cfg; no_places = met.no_places cfg; more_places = met.more_places cfg } in
    begins laws units more

pub returns-clause-places : goal.returns-clause-places
returns-clause-places g c = λ cfg units more.
    let met = g.met.L.TakeLayout in
    let laws : Laws g.L.TakeLayout cfg =
    record { starts = met.starts cfg; grows = met.grows cfg; no_places = met.no_places cfg; more_places = met.more_places cfg } in
    places_begin laws units more

pub returns-clause-behind : goal.returns-clause-behind
returns-clause-behind g c = λ cfg units more unit rest.
    let met = g.met.L.TakeLayout in
    let laws : Laws g.L.TakeLayout cfg =
    record { starts = met.starts cfg; grows = met.grows cfg; no_places = met.no_places cfg; more_places = met.more_places cfg } in
    behind laws units unit more rest

pub returns-clause-next : goal.returns-clause-next
returns-clause-next g c = λ cfg units unit rest.
    let met = g.met.L.TakeLayout in
    let laws : Laws g.L.TakeLayout cfg =
    record { starts = met.starts cfg; grows = met.grows cfg; no_places = met.no_places cfg; more_places = met.more_places cfg } in
    next laws units unit rest
