use Rattle.std.proofs.Common.{◌≡◌, ◌<◌, ◌≤◌, ℕ, List, length, map, slice_get, Some, sym, ap, subst, ◌∙◌, arith, []}
use Rattle.take_core.specs.declared.numbers.TheConstants.{MAX_UNIT}
use Rattle.take_layout.specs.declared.place.Place.{Place}
use Rattle.take_state.specs.Seen.{TakeSeen, lengths_in, published}
use Rattle.take_state.proofs.ReadLemmas.{length_told, lies}
use Rattle.take_state.proofs.state.TakeState.unit_len.Goals as goal

pub bounds-places-i : goal.bounds-places-i
bounds-places-i g c =
    let k = c.self.invariant in
    let before = subst (λ (s : TakeSeen g.row.D.Denot). c.args.i < published s) (sym c.self.view_is) c.requires.published in
    omega (
      arith,
      before,
      k.stands.counted,
      c.units_lie.ensures.counted c.self.inside.file.config k.units,
      ap (length {A = Place}) k.lie,
      ap (length {A = Place}) c.places.ensures.places,
    )

pub returns-clause-len : goal.returns-clause-len
returns-clause-len g c =
    let k = c.self.invariant in
    let before = subst (λ (s : TakeSeen g.row.D.Denot). c.args.i < published s) (sym c.self.view_is) c.requires.published in
    let l : c.args.i < length k.units = omega (arith, before, k.stands.counted) in
    let at = lies g.L.TakeLayout c.units_lie.ensures.counted c.units_lie.ensures.numbered c.self.inside.file.config k.units c.places.result.now c.args.i
    (c.places.ensures.places ∙ k.lie) l in
    let told = subst (λ (s : TakeSeen g.row.D.Denot). lengths_in s.history ≡ map (length {A = ℕ}) k.units) c.self.view_is k.stands.lengths in
    ap (λ (n : ℕ). Some n) at.long ∙ sym (length_told k.units _ c.args.i told l)

pub returns-clause-sized : goal.returns-clause-sized
returns-clause-sized g c =
    let k = c.self.invariant in
    let before = subst (λ (s : TakeSeen g.row.D.Denot). c.args.i < published s) (sym c.self.view_is) c.requires.published in
    let l : c.args.i < length k.units = omega (arith, before, k.stands.counted) in
    let at = lies g.L.TakeLayout c.units_lie.ensures.counted c.units_lie.ensures.numbered c.self.inside.file.config k.units c.places.result.now c.args.i
    (c.places.ensures.places ∙ k.lie) l in
    let sized = k.stands.sized c.args.i [] l in
    (omega (arith, at.long, sized.some), omega (arith, at.long, sized.most))
