use Rattle.std.proofs.Common.{◌≡◌, ◌≤◌, ℕ, List, sym, subst, ◌∙◌, length, take, arith}
use Rattle.rec_bytes.specs.Configuration.{Fields}
use Rattle.rec_bytes.specs.Ranges.{IsInRange}
use Rattle.take_disk.specs.declared.area.Area.TheVariants.{Essence}
use Rattle.take_layout.specs.declared.place.Place.{Place}
use Rattle.essence_walk.specs.Essences.{IsBroken}
use Rattle.essence_walk.specs.inner.Looks.{Begins}
use Rattle.essence_walk.proofs.FrontLemmas.{Files, begins_none, begins_places, broken_head, broken_units, broken_end}
use Rattle.essence_walk.proofs.walk.find_file.Goals as goal

pub returns-then-not-branch-clause-broken : goal.returns-then-not-branch-clause-broken
returns-then-not-branch-clause-broken g c = λ at at_is told is.
    let layout = g.L.TakeLayout in
    let met = g.met.L.TakeLayout in
    let cfg : Fields = c.args.file.now.config in
    let ranged : IsInRange cfg = subst IsInRange c.config.ensures c.ranges-2.ensures in
    let files : Files layout cfg = record {
      one = λ units others rest other_rest. c.files_are_one.ensures.one cfg units others rest other_rest ranged;
      begins = c.growing_begins.ensures.begins cfg;
      counted = c.units_lie.ensures.counted cfg;
      starts = met.starts cfg;
      grows = met.grows cfg;
      closes = met.closes cfg;
    } in
    let size = g.met.D.TakeDisk.long c.args.disk.now told Essence is in
    let inside = c.requires.inside in
    let zero_is : 0 ≡ at = cc in
    let other = subst (λ (f : Fields). length (layout.head f) ≤ c.args.mark.length
    → take (length (layout.head f)) told.essence.reads ≡ layout.head f → ⊥) c.config-2.ensures
    (c.in_ok-has_head.ensures.other c.if-not-branch.true told is) in
    subst (λ (n : ℕ). IsBroken layout cfg c.args.mark told.essence.reads n) zero_is
    (broken_head files c.args.mark told.essence.reads (omega (arith, size, inside)) other)

pub returns-then-not-branch-2-clause-broken : goal.returns-then-not-branch-2-clause-broken
returns-then-not-branch-2-clause-broken g c = λ at at_is told is.
    let layout = g.L.TakeLayout in
    let met = g.met.L.TakeLayout in
    let old : Fields = c.args.file.now.config in
    let cfg : Fields = c.find_units.new.file.config in
    let essence : List ℕ = told.essence.reads in
    let found = c.in_ok-find_units.ensures in
    let ranged : IsInRange cfg = subst IsInRange (c.config.ensures ∙ sym found.config) c.ranges-2.ensures in
    let files : Files layout cfg = record {
      one = λ units others rest other_rest. c.files_are_one.ensures.one cfg units others rest other_rest ranged;
      begins = c.growing_begins.ensures.begins cfg;
      counted = c.units_lie.ensures.counted cfg;
      starts = met.starts cfg;
      grows = met.grows cfg;
      closes = met.closes cfg;
    } in
    let size = g.met.D.TakeDisk.long c.args.disk.now told Essence is in
    let inside = c.requires.inside in
    let same : c.len.result ≡ at = cc in
    let head : take (length (layout.head cfg)) essence ≡ layout.head cfg =
    subst (λ (f : Fields). take (length (layout.head f)) essence ≡ layout.head f) (c.config-2.ensures ∙ sym found.config)
    (c.in_ok-has_head.ensures.same c.if-not-branch.false told is) in
    let telling = c.in_ok-has_head.ensures.stays.same ∙ is in
    let first : Begins layout cfg essence c.args.file.now.places =
    subst (λ (places : List Place). Begins layout cfg essence places) (sym c.requires.none) (begins_none files essence (met.no_places cfg) head) in
    let b = found.begins told telling first in
    subst (λ (n : ℕ). IsBroken layout cfg c.args.mark essence n) same
    (broken_units files c.args.mark essence c.find_units.new.file.places c.len.result (omega (arith, size, inside)) b
    (found.none c.if-not-branch-2.true told telling first) (found.less c.if-not-branch-2.true) (c.len.ensures.ends b.units b.lie)
    (found.ends b.units b.lie))

pub returns-then-not-branch-3-clause-broken : goal.returns-then-not-branch-3-clause-broken
returns-then-not-branch-3-clause-broken g c = λ at at_is told is.
    let layout = g.L.TakeLayout in
    let met = g.met.L.TakeLayout in
    let cfg : Fields = c.find_units.new.file.config in
    let essence : List ℕ = told.essence.reads in
    let found = c.in_ok-find_units.ensures in
    let ranged : IsInRange cfg = subst IsInRange (c.config.ensures ∙ sym found.config) c.ranges-2.ensures in
    let files : Files layout cfg = record {
      one = λ units others rest other_rest. c.files_are_one.ensures.one cfg units others rest other_rest ranged;
      begins = c.growing_begins.ensures.begins cfg;
      counted = c.units_lie.ensures.counted cfg;
      starts = met.starts cfg;
      grows = met.grows cfg;
      closes = met.closes cfg;
    } in
    let size = g.met.D.TakeDisk.long c.args.disk.now told Essence is in
    let inside = c.requires.inside in
    let end = c.len-then-not-branch-3 in
    let same : end.result ≡ at = cc in
    let head : take (length (layout.head cfg)) essence ≡ layout.head cfg =
    subst (λ (f : Fields). take (length (layout.head f)) essence ≡ layout.head f) (c.config-2.ensures ∙ sym found.config)
    (c.in_ok-has_head.ensures.same c.if-not-branch.false told is) in
    let telling = c.in_ok-has_head.ensures.stays.same ∙ is in
    let later = found.stays.same ∙ telling in
    let first : Begins layout cfg essence c.args.file.now.places =
    subst (λ (places : List Place). Begins layout cfg essence places) (sym c.requires.none) (begins_none files essence (met.no_places cfg) head) in
    let b = found.begins told telling first in
    subst (λ (n : ℕ). IsBroken layout cfg c.args.mark essence n) same
    (broken_end files c.args.mark essence c.find_units.new.file.places end.result (omega (arith, size, inside)) b
    (found.whole c.if-not-branch-2.false) (c.in_ok-has_end.ensures.other c.if-not-branch-3.true told later b.units b.rest b.lie b.begins)
    (end.ensures.ends b.units b.lie) (found.ends b.units b.lie))

pub returns-clause-begins : goal.returns-clause-begins
returns-clause-begins g c = λ none told is.
    let layout = g.L.TakeLayout in
    let met = g.met.L.TakeLayout in
    let cfg : Fields = c.find_units.new.file.config in
    let essence : List ℕ = told.essence.reads in
    let found = c.in_ok-find_units.ensures in
    let ranged : IsInRange cfg = subst IsInRange (c.config.ensures ∙ sym found.config) c.ranges-2.ensures in
    let files : Files layout cfg = record {
      one = λ units others rest other_rest. c.files_are_one.ensures.one cfg units others rest other_rest ranged;
      begins = c.growing_begins.ensures.begins cfg;
      counted = c.units_lie.ensures.counted cfg;
      starts = met.starts cfg;
      grows = met.grows cfg;
      closes = met.closes cfg;
    } in
    let head : take (length (layout.head cfg)) essence ≡ layout.head cfg =
    subst (λ (f : Fields). take (length (layout.head f)) essence ≡ layout.head f) (c.config-2.ensures ∙ sym found.config)
    (c.in_ok-has_head.ensures.same c.if-not-branch.false told is) in
    let telling = c.in_ok-has_head.ensures.stays.same ∙ is in
    let later = found.stays.same ∙ telling in
    let first : Begins layout cfg essence c.args.file.now.places =
    subst (λ (places : List Place). Begins layout cfg essence places) (sym c.requires.none) (begins_none files essence (met.no_places cfg) head) in
    let b = found.begins told telling first in
    begins_places files c.args.mark essence c.find_units.new.file.places b (found.whole c.if-not-branch-2.false)
    (c.in_ok-has_end.ensures.same c.if-not-branch-3.false told later b.units b.rest b.lie b.begins)
