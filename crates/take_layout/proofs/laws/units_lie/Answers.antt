use Rattle.take_layout.specs.laws.Files.{Laws, counted, lies, placed, numbered_lies}
use Rattle.take_layout.proofs.laws.units_lie.Goals as goal

pub returns-clause-counted : goal.returns-clause-counted
returns-clause-counted g c = λ cfg units.
    let met = g.met.L.TakeLayout in
    let laws : Laws g.L.TakeLayout cfg =
    record { starts = met.starts cfg; grows = met.grows cfg; no_places = met.no_places cfg; more_places = met.more_places cfg } in
    counted laws units

pub returns-clause-bytes : goal.returns-clause-bytes
returns-clause-bytes g c = λ cfg units more unit rest.
    let met = g.met.L.TakeLayout in
    let laws : Laws g.L.TakeLayout cfg =
    record { starts = met.starts cfg; grows = met.grows cfg; no_places = met.no_places cfg; more_places = met.more_places cfg } in
    lies laws units more unit rest

pub returns-clause-place : goal.returns-clause-place
returns-clause-place g c = λ cfg units more unit.
    let met = g.met.L.TakeLayout in
    let laws : Laws g.L.TakeLayout cfg =
    record { starts = met.starts cfg; grows = met.grows cfg; no_places = met.no_places cfg; more_places = met.more_places cfg } in
    placed laws units more unit

pub returns-clause-numbered : goal.returns-clause-numbered
returns-clause-numbered g c = λ cfg units unit rest place i place_is unit_is.
    let met = g.met.L.TakeLayout in
    let laws : Laws g.L.TakeLayout cfg =
    record { starts = met.starts cfg; grows = met.grows cfg; no_places = met.no_places cfg; more_places = met.more_places cfg } in
    numbered_lies laws units unit rest place i place_is unit_is
