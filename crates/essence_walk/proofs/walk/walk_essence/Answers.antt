use Rattle.std.proofs.Common.{◌≡◌, inl, inr, refl, sym, ap, subst, ◌∙◌, arith}
use Rattle.std.proofs.lemmas.Bool.{both_ways}
use Rattle.rec_bytes.specs.Configuration.{Fields}
use Rattle.rec_bytes.specs.Views.{view}
use Rattle.take_disk.specs.declared.area.Area.TheVariants.{Essence}
use Rattle.take_layout.specs.Growing.{Growing}
use Rattle.essence_walk.specs.Essences.{NamesPlaces}
use Rattle.essence_walk.specs.Walks.{IfDamaged}
use Rattle.essence_walk.specs.declared.fault.WalkFault.{WalkFault}
use Rattle.essence_walk.specs.inner.Looks.{BeginsPlaces, Fills}
use Rattle.essence_walk.proofs.ByteLemmas.{if_told}
use Rattle.essence_walk.proofs.LawLemmas.{named_places}
use Rattle.essence_walk.proofs.walk.walk_essence.Goals as goal
use Rattle.essence_walk.proofs.walk.walk_essence.Goals.{else-mark-via-then-mark+else-len-mark-2, else-mark-via-else-mark}

pub returns-then-len-mark-clause-refused : goal.returns-then-len-mark-clause-refused
returns-then-len-mark-clause-refused g c =
    let layout = g.L.TakeLayout in
    let cfg : Fields = view c.args.cfg.now in
    if_told (g.D.TakeDisk.told c.args.disk.now) (λ told. IfDamaged layout cfg c.args.mark told.essence.reads c.damaged.result) (λ told is.
    let size = g.met.D.TakeDisk.long c.args.disk.now told Essence is in
    let len_is = c.len-len.ensures in
    let short = c.if-len-mark.true in
    subst (λ (fault : WalkFault). IfDamaged layout cfg c.args.mark told.essence.reads fault) (sym c.damaged.ensures)
    (inl (record { short = omega (arith, size, len_is, short); place = len_is ∙ size }), refl))

pub returns-then-len-mark-2-clause-refused : goal.returns-then-len-mark-2-clause-refused
returns-then-len-mark-2-clause-refused g c =
    let layout = g.L.TakeLayout in
    let cfg : Fields = view c.args.cfg.now in
    let same : c.find_file.new.file.config ≡ cfg =
    c.find_file.ensures.config ∙ (c.reserve.ensures.config ∙ ap (λ (f : Growing). f.config) c.new-file.ensures) in
    if_told (g.D.TakeDisk.told c.args.disk.now) (λ told. IfDamaged layout cfg c.args.mark told.essence.reads c.damaged-then-len-mark-2.result) (λ told is.
    let size = g.met.D.TakeDisk.long c.args.disk.now told Essence is in
    let len_is = c.len-len.ensures in
    let longer = c.if-len-mark-2.true in
    let b : BeginsPlaces layout cfg c.args.mark told.essence.reads c.find_file.new.file.places =
    subst (λ (f : Fields). BeginsPlaces layout f c.args.mark told.essence.reads c.find_file.new.file.places) same
    (c.in-Ok-None.ensures.begins c.in-Ok-None.field-0-is told is) in
    subst (λ (fault : WalkFault). IfDamaged layout cfg c.args.mark told.essence.reads fault) (sym c.damaged-then-len-mark-2.ensures) (
      inr (inr (record {
        units = b.units;
        file = b.file;
        closed = c.if-mark.true;
        longer = omega (arith, size, len_is, longer);
        place = refl;
      })),
      refl,
    ))

pub returns-else-mark-clause-named : goal.returns-else-mark-clause-named
returns-else-mark-clause-named g c =
    let layout = g.L.TakeLayout in
    let cfg : Fields = view c.args.cfg.now in
    let same : c.find_file.new.file.config ≡ cfg =
    c.find_file.ensures.config ∙ (c.reserve.ensures.config ∙ ap (λ (f : Growing). f.config) c.new-file.ensures) in
    if_told (g.D.TakeDisk.told c.args.disk.now) (λ told. NamesPlaces layout cfg c.args.mark told.essence.reads c.find_file.new.file.places) (λ told is.
    let size = g.met.D.TakeDisk.long c.args.disk.now told Essence is in
    let len_is = c.len-len.ensures in
    let b : BeginsPlaces layout cfg c.args.mark told.essence.reads c.find_file.new.file.places =
    subst (λ (f : Fields). BeginsPlaces layout f c.args.mark told.essence.reads c.find_file.new.file.places) same
    (c.in-Ok-None.ensures.begins c.in-Ok-None.field-0-is told is) in
    named_places layout cfg c.args.mark told.essence.reads c.find_file.new.file.places b (λ closed. elim c.else-mark.branch [
      | else-mark-via-then-mark+else-len-mark-2 w ↦
          let past = w.if-len-mark-2.false in let long = c.if-len-mark.false in omega (arith, past, len_is, long, size)
      | else-mark-via-else-mark w ↦ absurd (both_ways c.args.mark.closed w.if-mark.false closed)
    ]))

pub returns-else-mark-clause-inside : goal.returns-else-mark-clause-inside
returns-else-mark-clause-inside g c =
    let layout = g.L.TakeLayout in
    let cfg : Fields = view c.args.cfg.now in
    let same : c.find_file.new.file.config ≡ cfg =
    c.find_file.ensures.config ∙ (c.reserve.ensures.config ∙ ap (λ (f : Growing). f.config) c.new-file.ensures) in
    let fills : Fills layout cfg c.args.mark c.find_file.new.file.places =
    subst (λ (f : Fields). Fills layout f c.args.mark c.find_file.new.file.places) same (c.in-Ok-None.ensures.fills c.in-Ok-None.field-0-is) in
    let len_is = c.len-len.ensures in
    let long = c.if-len-mark.false in
    record {
      config = same;
      count = fills.count;
      length_is = fills.length_is;
      each = c.units_end.ensures;
      within = omega (arith, len_is, long);
      fills = λ closed. elim c.else-mark.branch [
        | else-mark-via-then-mark+else-len-mark-2 w ↦ let past = w.if-len-mark-2.false in omega (arith, past, len_is, long)
        | else-mark-via-else-mark w ↦ absurd (both_ways c.args.mark.closed w.if-mark.false closed)
      ];
    }
