use Rattle.std.proofs.Common.{sym, subst, List, arith}
use Rattle.rec_bytes.specs.Views.{view}
use Rattle.take_layout.specs.Takes.{IsTake}
use Rattle.take_layout.specs.declared.place.Place.{Place}
use Rattle.take_layout.specs.inner.Keeping.{EndsFile}
use Rattle.take_layout.specs.laws.Files.{Laws}
use Rattle.take_layout.specs.laws.Takes.{take_none, ends_none}
use Rattle.take_layout.proofs.growing.GrowingFile.new.Goals as goal

pub invariant_of-result : goal.invariant_of-result
invariant_of-result g c =
    let cfg = view c.args.cfg.now in
    let layout = g.L.TakeLayout in
    let met = g.met.L.TakeLayout in
    let laws : Laws layout cfg =
    record { starts = met.starts cfg; grows = met.grows cfg; no_places = met.no_places cfg; more_places = met.more_places cfg } in
    let none = sym c.new.ensures.items in
    let fits = (met.head_fits cfg c.ranges-2.ensures).1 in
    record {
      ranged = c.ranges-2.ensures;
      lie = subst (λ (ps : List Place). IsTake (layout.is_unit cfg) (layout.places_of cfg) cfg.max_frames ps) none (take_none laws cfg.max_frames);
      ends = subst (λ (ps : List Place). EndsFile layout cfg ps c.head_len.result) none (ends_none laws c.head_len.result c.head_len.ensures);
      small = omega arith;
    }
