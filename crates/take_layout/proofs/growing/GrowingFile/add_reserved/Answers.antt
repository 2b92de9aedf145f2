use Rattle.std.proofs.Common.{◌≡◌, ◌<◌, ◌+◌, ◌-◌, length, ◌++◌, ◌∷◌, [], ◌∙◌, sym, ap, subst, refl, List, ℕ, arith}
use Rattle.std.proofs.lemmas.List.{length-append}
use Rattle.rec_bytes.specs.Views.{view}
use Rattle.take_layout.specs.Growing.{Growing}
use Rattle.take_layout.specs.Takes.{IsTake}
use Rattle.take_layout.specs.declared.place.Place.{Place}
use Rattle.take_layout.specs.inner.Keeping.{EndsFile}
use Rattle.take_layout.specs.laws.Files.{Laws}
use Rattle.take_layout.specs.laws.Takes.{take_few, take_more, ends_more}
use Rattle.take_layout.proofs.growing.GrowingFile.add_reserved.Goals as goal

pub place_at-place-requires-clause-lie : goal.place_at-place-requires-clause-lie
place_at-place-requires-clause-lie g c =
    let cfg = view c.self.inside.cfg in
    let layout = g.L.TakeLayout in
    let met = g.met.L.TakeLayout in
    let laws : Laws layout cfg =
    record { starts = met.starts cfg; grows = met.grows cfg; no_places = met.no_places cfg; more_places = met.more_places cfg } in
    let less : length c.self.inside.places.items < cfg.max_frames =
    subst (λ (f : Growing). length f.places < f.config.max_frames) (sym c.self.view_is) c.requires.few in
    let few = take_few laws cfg.max_frames c.self.inside.places.items c.self.invariant.lie less in
    subst (λ (ps : List Place). IsTake (layout.is_unit cfg) (layout.places_of cfg) (cfg.max_frames - 1) ps) (sym c.as_slice.ensures.value) few

pub invariant_of-self : goal.invariant_of-self
invariant_of-self g c =
    let cfg = view c.self.inside.cfg in
    let layout = g.L.TakeLayout in
    let met = g.met.L.TakeLayout in
    let laws : Laws layout cfg =
    record { starts = met.starts cfg; grows = met.grows cfg; no_places = met.no_places cfg; more_places = met.more_places cfg } in
    let kept = c.self.invariant in
    let old = c.self.inside.places.items in
    let less : length old < cfg.max_frames =
    subst (λ (f : Growing). length f.places < f.config.max_frames) (sym c.self.view_is) c.requires.few in
    let place = c.place_at-place.result in
    let more : c.push_reserved.new.self.items ≡ old ++ place ∷ [] = c.push_reserved.ensures.items in
    let count : length c.push_reserved.new.self.items ≡ length old + 1 = ap (length {A = Place}) more ∙ length-append old (place ∷ []) in
    let unit : (unit : List ℕ) × layout.is_unit cfg unit × (c.args.unit_len ≡ length unit) =
    subst (λ (f : Growing). (unit : List ℕ) × layout.is_unit f.config unit × (c.args.unit_len ≡ length unit)) (sym c.self.view_is) c.requires.unit in
    let unit_small = met.unit_fits cfg unit.0 unit.1 in
    record {
      ranged = kept.ranged;
      lie = subst (λ (ps : List Place). IsTake (layout.is_unit cfg) (layout.places_of cfg) cfg.max_frames ps) (sym more)
          (take_more laws cfg.max_frames old place unit.0 kept.ranged.max_frames.least (take_few laws cfg.max_frames old kept.lie less) unit.1
          (λ us lie. c.place_at-place.ensures.placed us unit.0 (c.as_slice.ensures.value ∙ lie) unit.2));
      ends = subst (λ (ps : List Place). EndsFile layout cfg ps (place.at + place.len)) (sym more) (ends_more laws old place (place.at + place.len) refl);
      small =
          let near = c.place_at-place.ensures.near in
          let len = c.place_at-place.ensures.len in
          let before = kept.small in
          let is = unit.2 in
          omega (arith, near, len, before, is, unit_small, count);
    }
