use Rattle.std.proofs.Common.{◌≡◌, ℕ, ◌-◌, ◌≤◌, List, length, sym, ◌∙◌, subst, arith}
use Rattle.std.proofs.lemmas.List.{length-take-le}
use Rattle.rec_bytes.specs.Configuration.{Fields}
use Rattle.rec_bytes.specs.Views.{view}
use Rattle.take_layout.specs.Takes.{IsTake}
use Rattle.take_layout.specs.declared.place.Place.{Place}
use Rattle.take_state.proofs.publish.write_unit.Goals as goal

pub slice_bounds-lead-end : goal.slice_bounds-lead-end
slice_bounds-lead-end g c =
    let layout = g.L.TakeLayout in
    let same = sym c.config.ensures in
    let lie = subst (λ (cfg : Fields). IsTake (layout.is_unit cfg) (layout.places_of cfg) (cfg.max_frames - 1) c.args.file.now.places) same
    (c.places.ensures.few c.requires.few) in
    let lies = subst (λ (places : List Place). IsTake (layout.is_unit (view c.config.result.now)) (layout.places_of (view c.config.result.now))
    (c.config.result.now.max_frames - 1) places) (sym c.places.ensures.places) lie in
    let unit = subst (λ (cfg : Fields). layout.is_unit cfg c.args.unit.now) same c.requires.unit in
    let fits = c.rooms_suffice.ensures.lead (view c.config.result.now) c.places.result.now c.args.unit.now c.lead_len.result
    c.ranges-2.ensures lies unit c.lead_len.ensures in
    let room = subst (λ (cfg : Fields). layout.lead_most cfg ≤ length c.args.buffer.now) same c.requires.room in
    omega (arith, fits, room)

pub slice_bounds-lead-end-2 : goal.slice_bounds-lead-end-2
slice_bounds-lead-end-2 g c =
    let layout = g.L.TakeLayout in
    let same = sym c.config.ensures in
    let lie = subst (λ (cfg : Fields). IsTake (layout.is_unit cfg) (layout.places_of cfg) (cfg.max_frames - 1) c.args.file.now.places) same
    (c.places.ensures.few c.requires.few) in
    let lies = subst (λ (places : List Place). IsTake (layout.is_unit (view c.config.result.now)) (layout.places_of (view c.config.result.now))
    (c.config.result.now.max_frames - 1) places) (sym c.places.ensures.places) lie in
    let unit = subst (λ (cfg : Fields). layout.is_unit cfg c.args.unit.now) same c.requires.unit in
    let fits = c.rooms_suffice.ensures.lead (view c.config.result.now) c.places.result.now c.args.unit.now c.lead_len.result
    c.ranges-2.ensures lies unit c.lead_len.ensures in
    let room = subst (λ (cfg : Fields). layout.lead_most cfg ≤ length c.args.buffer.now) same c.requires.room in
    sym (length-take-le c.lead_len.result c.args.buffer.now (omega (arith, fits, room)))

pub put_lead-requires-clause-room : goal.put_lead-requires-clause-room
put_lead-requires-clause-room g c = λ units lie_there.
    let layout = g.L.TakeLayout in
    let same = sym c.config.ensures in
    let lie = subst (λ (cfg : Fields). IsTake (layout.is_unit cfg) (layout.places_of cfg) (cfg.max_frames - 1) c.args.file.now.places) same
    (c.places.ensures.few c.requires.few) in
    let lies = subst (λ (places : List Place). IsTake (layout.is_unit (view c.config.result.now)) (layout.places_of (view c.config.result.now))
    (c.config.result.now.max_frames - 1) places) (sym c.places.ensures.places) lie in
    let unit = subst (λ (cfg : Fields). layout.is_unit cfg c.args.unit.now) same c.requires.unit in
    let fits = c.rooms_suffice.ensures.lead (view c.config.result.now) c.places.result.now c.args.unit.now c.lead_len.result
    c.ranges-2.ensures lies unit c.lead_len.ensures in
    let room = subst (λ (cfg : Fields). layout.lead_most cfg ≤ length c.args.buffer.now) same c.requires.room in
    let there = subst (λ (places : List Place). places ≡ layout.places_of (view c.config.result.now) units)
    (c.places-2.ensures.places ∙ sym c.places.ensures.places) lie_there in
    length-take-le c.lead_len.result c.args.buffer.now (omega (arith, fits, room)) ∙ c.lead_len.ensures units (length c.args.unit.now) there
