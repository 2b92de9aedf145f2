use Rattle.std.proofs.Common.{◌≡◌, ◌-◌, ℕ, List, sym, subst, ◌∙◌, length, drop}
use Rattle.rec_bytes.specs.Configuration.{Fields}
use Rattle.rec_bytes.specs.Ranges.{IsInRange}
use Rattle.take_layout.specs.declared.place.Place.{Place}
use Rattle.essence_walk.specs.inner.Looks.{Begins, NoMore, NoNext}
use Rattle.essence_walk.proofs.FrontLemmas.{Files, no_more}
use Rattle.essence_walk.proofs.walk.find_units.Goals as goal

pub returns-then-not-branch-clause-none : goal.returns-then-not-branch-clause-none
returns-then-not-branch-clause-none g c = λ more told is.
    let layout = g.L.TakeLayout in
    let met = g.met.L.TakeLayout in
    let cfg : Fields = c.args.file.now.config in
    let essence : List ℕ = told.essence.reads in
    let before = c.units.invariant in
    let next = c.in_ok-find_next.ensures in
    let ranged : IsInRange cfg = subst IsInRange c.config.ensures c.ranges-2.ensures in
    let files : Files layout cfg = record {
      one = λ units others rest other_rest. c.files_are_one.ensures.one cfg units others rest other_rest ranged;
      begins = c.growing_begins.ensures.begins cfg;
      counted = c.units_lie.ensures.counted cfg;
      starts = met.starts cfg;
      grows = met.grows cfg;
      closes = met.closes cfg;
    } in
    let places_are = next.same c.if-not-branch.true in
    subst (λ (f : Fields). Begins layout f essence c.args.file.now.places → NoMore layout f c.args.mark essence c.find_next.new.file.places)
    (sym (next.config ∙ before.config))
    (λ first.
    let b = before.begins told is first in
    let none : NoNext layout cfg b.units (drop (length (layout.growing cfg b.units)) essence) (c.args.mark.length - length (layout.growing cfg b.units)) =
    subst (λ (f : Fields). NoNext layout f b.units (drop (length (layout.growing f b.units)) essence) (c.args.mark.length - length (layout.growing f b.units)))
    before.config
    (next.none c.if-not-branch.true told (before.stays.same ∙ is) b.units
    (subst (λ (f : Fields). c.units.file.places ≡ layout.places_of f b.units) (sym before.config) b.lie)) in
    subst (λ (places : List Place). NoMore layout cfg c.args.mark essence places) (sym places_are)
    (no_more files c.args.mark essence c.units.file.places b none))
