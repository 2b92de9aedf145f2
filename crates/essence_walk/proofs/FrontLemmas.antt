-- The growing files with which an essence begins, and the greatest of them.
use Rattle.std.proofs.Common.{◌≡◌, ℕ, ◌-◌, ◌<◌, ◌≤◌, Bool, true, false, inl, inr, List, [], ◌∷◌, ◌++◌}
use Rattle.std.proofs.Common.{length, take, drop, All, refl, sym, ap, subst, ◌∙◌, arith, append_assoc}
use Rattle.std.proofs.lemmas.List.{length-append, length-take-le, take_at, drop_at, take-append-drop}
use Rattle.std.proofs.lemmas.List.Elements.{All-nil, All-take}
use Rattle.std.proofs.Math.Seq.{take-append_seam}
use Rattle.std.proofs.lemmas.Bool.{cases_lt}
use Rattle.rec_bytes.specs.Configuration.{Fields}
use Rattle.commit_sidecar.specs.Recovers.{file_of}
use Rattle.take_core.specs.declared.mark.Mark.{Mark}
use Rattle.take_layout.specs.Takes.{AreUnits}
use Rattle.take_layout.specs.declared.layout.TakeLayout.{Ghosts}
use Rattle.take_layout.specs.declared.place.Place.{Place}
use Rattle.essence_walk.specs.Essences.{BeginsFile, IsFront, IsGreatest, IsBroken}
use Rattle.essence_walk.specs.inner.Looks.{Begins, BeginsPlaces, Ends, NoMore, NoNext}

-- what is known of the files of a layout
pub record Files {L : Type 0} (layout : Ghosts L) (cfg : Fields) : Type 0 where
  pub one : (units others : List (List ℕ)) (rest other_rest : List ℕ) → AreUnits (layout.is_unit cfg) cfg.max_frames units
      → AreUnits (layout.is_unit cfg) cfg.max_frames others → length units ≡ length others
      → layout.growing cfg units ++ rest ≡ layout.growing cfg others ++ other_rest → units ≡ others
  pub begins : (units more : List (List ℕ)) → (rest : List ℕ) × (layout.growing cfg (units ++ more) ≡ layout.growing cfg units ++ rest)
  pub counted : (units : List (List ℕ)) → length (layout.places_of cfg units) ≡ length units
  pub starts : layout.growing cfg [] ≡ layout.head cfg
  pub grows : (units : List (List ℕ)) (unit : List ℕ)
      → layout.growing cfg (units ++ unit ∷ []) ≡ layout.growing cfg units ++ (layout.lead cfg units (length unit) ++ unit)
  pub closes : (units : List (List ℕ)) → layout.closed cfg units ≡ layout.growing cfg units ++ layout.tail cfg units

-- the first of units are units
front : (is_unit : List ℕ → Type 0) (most : ℕ) (first more : List (List ℕ)) → AreUnits is_unit most (first ++ more) → AreUnits is_unit most first
front is_unit most first more are =
    let few = are.few in
    record {
      each = subst (λ (xs : List (List ℕ)). All is_unit xs) (take-append_seam first more) (All-take is_unit (length first) (first ++ more) are.each);
      few = omega (arith, few, length-append first more);
    }

module _ {L : Type 0} {layout : Ghosts L} {cfg : Fields} (files : Files layout cfg) where
  -- of two lists of units whose growing files begin the same bytes, the longer begins with the other
  pub prefix : (units others : List (List ℕ)) (rest other_rest : List ℕ) → AreUnits (layout.is_unit cfg) cfg.max_frames units
      → AreUnits (layout.is_unit cfg) cfg.max_frames others → layout.growing cfg units ++ rest ≡ layout.growing cfg others ++ other_rest
      → length units ≤ length others → (more : List (List ℕ)) × (others ≡ units ++ more)
  prefix units others rest other_rest are those same less =
      let first : List (List ℕ) = take (length units) others in
      let more : List (List ℕ) = drop (length units) others in
      let split : first ++ more ≡ others = take-append-drop (length units) others in
      let next = files.begins first more in
      let grown : layout.growing cfg others ≡ layout.growing cfg first ++ next.0 = ap (layout.growing cfg) (sym split) ∙ next.1 in
      let firsts = front (layout.is_unit cfg) cfg.max_frames first more
      (subst (λ (us : List (List ℕ)). AreUnits (layout.is_unit cfg) cfg.max_frames us) (sym split) those) in
      let moved : layout.growing cfg units ++ rest ≡ layout.growing cfg first ++ (next.0 ++ other_rest) =
      same ∙ (ap (λ (xs : List ℕ). xs ++ other_rest) grown ∙ append_assoc (layout.growing cfg first) next.0 other_rest) in
      let is : units ≡ first = files.one units first rest (next.0 ++ other_rest) are firsts (sym (length-take-le (length units) others less)) moved in
      (more, sym split ∙ ap (λ (us : List (List ℕ)). us ++ more) (sym is))

  -- and its growing file is no shorter
  pub longer : (units more : List (List ℕ)) → length (layout.growing cfg units) ≤ length (layout.growing cfg (units ++ more))
  longer units more = let next = files.begins units more in omega (arith, ap length next.1, length-append (layout.growing cfg units) next.0)

  -- the file of units begins with their growing file
  file_begins : (closed : Bool) (units : List (List ℕ)) (rest : List ℕ)
      → (more : List ℕ) × (file_of layout closed cfg units ++ rest ≡ layout.growing cfg units ++ more)
      × (length (layout.growing cfg units) ≤ length (file_of layout closed cfg units))
  file_begins false units rest = (rest, refl, omega arith)
  file_begins true units rest =
      let is = files.closes units in (
        layout.tail cfg units ++ rest,
        ap (λ (xs : List ℕ). xs ++ rest) is ∙ append_assoc (layout.growing cfg units) (layout.tail cfg units) rest,
        omega (arith, ap length is, length-append (layout.growing cfg units) (layout.tail cfg units)),
      )

  -- no next unit
  some_more : (mark : Mark) (essence : List ℕ) (places : List Place) (b : Begins layout cfg essence places)
      → NoNext layout cfg b.units (drop (length (layout.growing cfg b.units)) essence) (mark.length - length (layout.growing cfg b.units))
      → (more : List (List ℕ)) (rest : List ℕ) → AreUnits (layout.is_unit cfg) cfg.max_frames (b.units ++ more)
      → essence ≡ layout.growing cfg (b.units ++ more) ++ rest → length (layout.growing cfg (b.units ++ more)) ≤ mark.length
      → length (b.units ++ more) ≤ length places
  some_more mark essence places b none [] rest are is within =
      omega (arith, length-append b.units [], ap length b.lie, files.counted b.units)
  some_more mark essence places b none (unit ∷ more) rest are is within =
      let head : List ℕ = layout.growing cfg b.units in
      let piece : List ℕ = layout.lead cfg b.units (length unit) in
      let seam : b.units ++ unit ∷ more ≡ (b.units ++ unit ∷ []) ++ more = sym (append_assoc b.units (unit ∷ []) more) in
      let moved = subst (λ (us : List (List ℕ)). AreUnits (layout.is_unit cfg) cfg.max_frames us) seam are in
      let next = files.begins (b.units ++ unit ∷ []) more in
      let grown : layout.growing cfg (b.units ++ unit ∷ more) ≡ (head ++ (piece ++ unit)) ++ next.0 =
      ap (layout.growing cfg) seam ∙ (next.1 ∙ ap (λ (xs : List ℕ). xs ++ next.0) (files.grows b.units unit)) in
      let all : essence ≡ head ++ (piece ++ (unit ++ (next.0 ++ rest))) =
      is ∙ (ap (λ (xs : List ℕ). xs ++ rest) grown
      ∙ (append_assoc (head ++ (piece ++ unit)) next.0 rest
      ∙ (append_assoc head (piece ++ unit) (next.0 ++ rest) ∙ ap (λ (xs : List ℕ). head ++ xs) (append_assoc piece unit (next.0 ++ rest))))) in
      let behind = ap (λ (xs : List ℕ). drop (length head) xs) all ∙ drop_at head (piece ++ (unit ++ (next.0 ++ rest))) (length head) refl in
      let lengths = ap length grown in
      absurd (none unit (next.0 ++ rest) (front (layout.is_unit cfg) cfg.max_frames (b.units ++ unit ∷ []) more moved) behind
      (omega (arith, lengths, within, length-append (head ++ (piece ++ unit)) next.0, length-append head (piece ++ unit), length-append piece unit)))

  pub no_more : (mark : Mark) (essence : List ℕ) (places : List Place) (b : Begins layout cfg essence places)
      → NoNext layout cfg b.units (drop (length (layout.growing cfg b.units)) essence) (mark.length - length (layout.growing cfg b.units))
      → NoMore layout cfg mark essence places
  no_more mark essence places b none units rest are few is within = elim (cases_lt (length units) (length b.units)) [
    | inl less ↦ omega (arith, less, ap length b.lie, files.counted b.units)
    | inr some ↦
        let p = prefix b.units units b.rest rest b.are_units are (sym b.begins ∙ is) some in
        let moved = some_more mark essence places b none p.0 rest
        (subst (λ (us : List (List ℕ)). AreUnits (layout.is_unit cfg) cfg.max_frames us) p.1 are)
        (is ∙ ap (λ (us : List (List ℕ)). layout.growing cfg us ++ rest) p.1)
        (subst (λ (us : List (List ℕ)). length (layout.growing cfg us) ≤ mark.length) p.1 within) in
        subst (λ (us : List (List ℕ)). length us ≤ length places) (sym p.1) moved
  ]

  -- the growing file of the units that were found is the greatest, where there are no more
  pub greatest : (mark : Mark) (essence : List ℕ) (places : List Place) (at : ℕ) (b : Begins layout cfg essence places)
      → NoMore layout cfg mark essence places → length places ≤ mark.count → at ≡ length (layout.growing cfg b.units) → at ≤ mark.length
      → IsGreatest (IsFront layout cfg mark essence) at
  greatest mark essence places at b none few at_is within =
      let count : length places ≡ length b.units = ap length b.lie ∙ files.counted b.units in
      inl (
        record {
          within = within;
          units = b.units;
          are_units = b.are_units;
          few = omega (arith, count, few);
          place = at_is;
          is = ap (λ (xs : List ℕ). take at xs) b.begins ∙ take_at (layout.growing cfg b.units) b.rest at (sym at_is);
        },
        λ other f.
            let rest : List ℕ = drop other essence in
            let is : essence ≡ layout.growing cfg f.units ++ rest =
            sym (take-append-drop other essence) ∙ ap (λ (xs : List ℕ). xs ++ rest) f.is in
            let f_place = f.place in
            let f_within = f.within in
            let less = none f.units rest f.are_units f.few is (omega (arith, f_place, f_within)) in
            let p = prefix f.units b.units rest b.rest f.are_units b.are_units (sym is ∙ b.begins) (omega (arith, less, count)) in
            let le = longer f.units p.0 in
            let same = ap (λ (us : List (List ℕ)). length (layout.growing cfg us)) p.1 in
            omega (arith, le, same, f_place, at_is),
      )

  -- then the essence doesn't begin with the file of more units
  pub none_above : (mark : Mark) (essence : List ℕ) (places : List Place) → NoMore layout cfg mark essence places
      → length places < mark.count → (units : List (List ℕ)) → BeginsFile layout cfg mark essence units → ⊥
  none_above mark essence places none less units f =
      let g = file_begins mark.closed units f.rest in
      let count = f.count in
      let long = f.length_is in
      let le = g.2 in
      let most = none units g.0 f.are_units (omega (arith, count)) (f.begins ∙ g.1) (omega (arith, long, le)) in
      omega (arith, most, less, count)

  -- nor with the file of as many, where that of the units that were found doesn't end at the mark
  pub none_other : (mark : Mark) (essence : List ℕ) (places : List Place) (b : Begins layout cfg essence places)
      → mark.count ≡ length places → (Ends layout cfg mark essence b.units → ⊥)
      → (units : List (List ℕ)) → BeginsFile layout cfg mark essence units → ⊥
  none_other mark essence places b all none units f =
      let g = file_begins mark.closed units f.rest in
      let f_count = f.count in
      let count : length units ≡ length b.units = omega (arith, all, f_count, ap length b.lie, files.counted b.units) in
      let is : units ≡ b.units = files.one units b.units g.0 b.rest f.are_units b.are_units count (sym (f.begins ∙ g.1) ∙ b.begins) in
      none (record {
        length_is = f.length_is ∙ ap (λ (us : List (List ℕ)). length (file_of layout mark.closed cfg us)) is;
        rest = f.rest;
        begins = f.begins ∙ ap (λ (us : List (List ℕ)). file_of layout mark.closed cfg us ++ f.rest) is;
      })

  -- an essence without a head is broken at its start
  pub broken_head : (mark : Mark) (essence : List ℕ) → mark.length ≤ length essence
      → (length (layout.head cfg) ≤ mark.length → take (length (layout.head cfg)) essence ≡ layout.head cfg → ⊥)
      → IsBroken layout cfg mark essence 0
  broken_head mark essence long other =
      let head : List ℕ = layout.head cfg in
      let no_growing : (units : List (List ℕ)) (rest : List ℕ) → essence ≡ layout.growing cfg units ++ rest
      → length (layout.growing cfg units) ≤ mark.length → ⊥ =
      λ units rest is within.
      let next = files.begins [] units in
      let grown : layout.growing cfg units ≡ head ++ next.0 = next.1 ∙ ap (λ (xs : List ℕ). xs ++ next.0) files.starts in
      let all : essence ≡ head ++ (next.0 ++ rest) = is ∙ (ap (λ (xs : List ℕ). xs ++ rest) grown ∙ append_assoc head next.0 rest) in
      other (omega (arith, within, ap length grown, length-append head next.0))
      (ap (λ (xs : List ℕ). take (length head) xs) all ∙ take_at head (next.0 ++ rest) (length head) refl) in
      record {
        long = long;
        none = λ units f.
            let g = file_begins mark.closed units f.rest in
            let is = f.length_is in
            let le = g.2 in
            no_growing units g.0 (f.begins ∙ g.1) (omega (arith, is, le));
        place = inr (
          refl,
          λ other f.
              let f_place = f.place in
              let f_within = f.within in
              no_growing f.units (drop other essence)
              (sym (take-append-drop other essence) ∙ ap (λ (xs : List ℕ). xs ++ drop other essence) f.is) (omega (arith, f_place, f_within)),
        );
      }

  -- behind the head no unit was found yet
  pub begins_none : (essence : List ℕ) → layout.places_of cfg [] ≡ [] → take (length (layout.head cfg)) essence ≡ layout.head cfg
      → Begins layout cfg essence []
  begins_none essence no_places front =
      let rest : List ℕ = drop (length (layout.head cfg)) essence in
      record {
        units = [];
        are_units = record { each = All-nil (layout.is_unit cfg); few = omega arith };
        lie = sym no_places;
        rest = rest;
        begins = sym (take-append-drop (length (layout.head cfg)) essence)
            ∙ ap (λ (xs : List ℕ). xs ++ rest) (front ∙ sym files.starts);
      }

  -- an essence is broken behind the units that were found, where there are fewer than the mark says and no more
  pub broken_units : (mark : Mark) (essence : List ℕ) (places : List Place) (at : ℕ) → mark.length ≤ length essence
      → (b : Begins layout cfg essence places) → NoMore layout cfg mark essence places → length places < mark.count
      → at ≡ length (layout.growing cfg b.units) → length (layout.growing cfg b.units) ≤ mark.length → IsBroken layout cfg mark essence at
  broken_units mark essence places at long b none less at_is within = record {
    long = long;
    none = none_above mark essence places none less;
    place = greatest mark essence places at b none (omega (arith, less)) at_is (omega (arith, at_is, within));
  }

  -- and where they are as many, and their file doesn't end at the mark
  pub broken_end : (mark : Mark) (essence : List ℕ) (places : List Place) (at : ℕ) → mark.length ≤ length essence
      → (b : Begins layout cfg essence places) → mark.count ≡ length places → (Ends layout cfg mark essence b.units → ⊥)
      → at ≡ length (layout.growing cfg b.units) → length (layout.growing cfg b.units) ≤ mark.length → IsBroken layout cfg mark essence at
  broken_end mark essence places at long b all none at_is within = record {
    long = long;
    none = none_other mark essence places b all none;
    place = greatest mark essence places at b (λ units rest are few is inside. omega (arith, few, all)) (omega (arith, all)) at_is
        (omega (arith, at_is, within));
  }

  -- else the essence begins with the file that the mark says
  pub begins_places : (mark : Mark) (essence : List ℕ) (places : List Place) (b : Begins layout cfg essence places)
      → mark.count ≡ length places → Ends layout cfg mark essence b.units → BeginsPlaces layout cfg mark essence places
  begins_places mark essence places b all e = record {
    units = b.units;
    file = record {
      are_units = b.are_units;
      count = all ∙ (ap (length {A = Place}) b.lie ∙ files.counted b.units);
      length_is = e.length_is;
      rest = e.rest;
      begins = e.begins;
    };
    lie = b.lie;
  }
