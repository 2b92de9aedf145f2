use Rattle.std.proofs.Common.{◌<◌, ◌-◌, length, sym, subst, List}
use Rattle.rec_bytes.specs.Views.{view}
use Rattle.take_layout.specs.Growing.{Growing}
use Rattle.take_layout.specs.Takes.{IsTake}
use Rattle.take_layout.specs.declared.place.Place.{Place}
use Rattle.take_layout.specs.laws.Files.{Laws}
use Rattle.take_layout.specs.laws.Takes.{take_few}
use Rattle.take_layout.proofs.growing.GrowingFile.next_place.Goals as goal

pub place_at-requires-clause-lie : goal.place_at-requires-clause-lie
place_at-requires-clause-lie g c =
    let cfg = view c.self.inside.cfg in
    let layout = g.L.TakeLayout in
    let met = g.met.L.TakeLayout in
    let laws : Laws layout cfg =
    record { starts = met.starts cfg; grows = met.grows cfg; no_places = met.no_places cfg; more_places = met.more_places cfg } in
    let less : length c.self.inside.places.items < cfg.max_frames =
    subst (λ (f : Growing). length f.places < f.config.max_frames) (sym c.self.view_is) c.requires.few in
    let few = take_few laws cfg.max_frames c.self.inside.places.items c.self.invariant.lie less in
    subst (λ (ps : List Place). IsTake (layout.is_unit cfg) (layout.places_of cfg) (cfg.max_frames - 1) ps) (sym c.as_slice.ensures.value) few
