use Rattle.std.proofs.Common.{subst}
use Rattle.take_layout.specs.Growing.{Growing}
use Rattle.take_layout.specs.Takes.{IsTake}
use Rattle.take_layout.specs.laws.Files.{Laws}
use Rattle.take_layout.specs.laws.Takes.{take_few}
use Rattle.take_layout.proofs.growing.GrowingFile.places.Goals as goal

pub returns-clause-few : goal.returns-clause-few
returns-clause-few g c = λ less.
    let cfg = c.args.self.now.config in
    let layout = g.L.TakeLayout in
    let met = g.met.L.TakeLayout in
    let laws : Laws layout cfg =
    record { starts = met.starts cfg; grows = met.grows cfg; no_places = met.no_places cfg; more_places = met.more_places cfg } in
    let lie = subst (λ (f : Growing). IsTake (layout.is_unit f.config) (layout.places_of f.config) f.config.max_frames f.places)
    c.self.view_is c.self.invariant.lie in
    take_few laws cfg.max_frames c.args.self.now.places lie less
