use Rattle.std.proofs.Common.{ap, subst, ◌≡◌, ◌∙◌, List, [], length}
use Rattle.take_layout.specs.declared.place.Place.{Place}
use Rattle.std.specs.Prelude.{Some, slice_get}
use Rattle.essence_walk.proofs.EndLemmas.{all_end}
use Rattle.essence_walk.proofs.walk.units_end.Goals as goal

pub returns : goal.returns
returns g c =
    let cfg = c.args.file.now.config in
    let t = c.places-places.ensures.lie in
    all_end c.args.file.now.places t.units (length (g.L.TakeLayout.growing cfg t.units)) c.args.limit
    (ap (length {A = Place}) t.lie ∙ c.units_lie.ensures.counted cfg t.units) (c.requires t.units t.lie)
    (λ place unit i place_is unit_is.
    (c.units_lie.ensures.numbered cfg t.units unit [] place i
    (subst (λ (places : List Place). slice_get places i ≡ Some place) t.lie place_is) unit_is).0)
