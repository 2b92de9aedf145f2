-- What follows of the laws of any layout, for takes of one configuration.
use Rattle.std.proofs.Common.{◌≡◌, ℕ, zero, suc, ◌+◌, ◌*◌, ◌^◌, ◌≤◌, List, [], ◌∷◌, ◌++◌, length, take, drop, All}
use Rattle.std.proofs.Common.{refl, sym, ap, ◌∙◌, subst, arith, append_assoc}
use Rattle.std.specs.Prelude.{Some, slice_get}
use Rattle.std.proofs.lemmas.List.{append_cancel_left, append-nil, length-append, take_at, drop_at, get_or_push}
use Rattle.std.proofs.lemmas.List.Elements.{All-take}
use Rattle.std.proofs.Math.Seq.{take-append_seam}
use Rattle.rec_bytes.specs.Configuration.{Fields}
use Rattle.take_layout.specs.Takes.{AreUnits, place_behind}
use Rattle.take_layout.specs.declared.place.Place.{Place}
use Rattle.take_layout.specs.declared.layout.TakeLayout.{Ghosts}

-- a layout's laws on files and places
pub record Laws {L : Type 0} (layout : Ghosts L) (cfg : Fields) : Type 0 where
  pub starts : layout.growing cfg [] ≡ layout.head cfg
  pub grows : (units : List (List ℕ)) (unit : List ℕ)
      → layout.growing cfg (units ++ unit ∷ []) ≡ layout.growing cfg units ++ (layout.lead cfg units (length unit) ++ unit)
  pub no_places : layout.places_of cfg [] ≡ []
  pub more_places : (units : List (List ℕ)) (unit : List ℕ)
      → layout.places_of cfg (units ++ unit ∷ [])
      ≡ layout.places_of cfg units ++ place_behind (layout.growing cfg units ++ layout.lead cfg units (length unit)) (layout.stream_of cfg units) unit ∷ []

-- its bounds
pub record Bounds {L : Type 0} (layout : Ghosts L) (cfg : Fields) : Type 0 where
  pub head : length (layout.head cfg) ≤ 2 ^ 32
  pub lead : (units : List (List ℕ)) (unit : List ℕ) → AreUnits (layout.is_unit cfg) cfg.max_frames (units ++ unit ∷ [])
      → length (layout.lead cfg units (length unit)) ≤ 2 ^ 32
  pub unit : (unit : List ℕ) → layout.is_unit cfg unit → length unit ≤ 2 ^ 32

-- its law on what comes next
abbrev pub OneNext : {L : Type 0} → Ghosts L → Fields → Type 0
OneNext layout cfg = (units : List (List ℕ)) (unit other rest other_rest : List ℕ)
    → AreUnits (layout.is_unit cfg) cfg.max_frames (units ++ unit ∷ []) → AreUnits (layout.is_unit cfg) cfg.max_frames (units ++ other ∷ [])
    → layout.lead cfg units (length unit) ++ (unit ++ rest) ≡ layout.lead cfg units (length other) ++ (other ++ other_rest) → unit ≡ other

-- one unit more moves across the seam
seam : (before : List (List ℕ)) (unit : List ℕ) (units : List (List ℕ)) → before ++ unit ∷ units ≡ (before ++ unit ∷ []) ++ units
seam before unit units = sym (append_assoc before (unit ∷ []) units)

-- the first of at most so many units are at most so many units
pub front : (is_unit : List ℕ → Type 0) (most : ℕ) (first more : List (List ℕ)) → AreUnits is_unit most (first ++ more) → AreUnits is_unit most first
front is_unit most first more are =
    let few = are.few in
    record {
      each = subst (λ (xs : List (List ℕ)). All is_unit xs) (take-append_seam first more) (All-take is_unit (length first) (first ++ more) are.each);
      few = omega (arith, length-append first more);
    }

-- a last unit is a unit
last_is : (is_unit : List ℕ → Type 0) (before : List (List ℕ)) (unit : List ℕ) → All is_unit (before ++ unit ∷ []) → is_unit unit
last_is is_unit before unit all =
    subst is_unit (get_or_push before unit [] (length before) refl) (all (length before) [] (omega (arith, length-append before (unit ∷ []))))

-- the list around its element of a number
around : {X : Type 0} (xs : List X) (i : ℕ) (x : X) → slice_get xs i ≡ Some x
    → (first : List X) × (rest : List X) × (xs ≡ first ++ x ∷ rest) × (length first ≡ i)
around [] i x e = absurd cc
around (y ∷ xs) zero x e = ([], xs, cc, refl)
around (y ∷ xs) (suc i) x e =
    let t = around xs i x e in
    (y ∷ t.0, t.1, ap (λ zs. y ∷ zs) t.2, ap suc t.3)

-- an element behind others has their number
numbered : {X : Type 0} (first : List X) (x : X) (rest : List X) → slice_get (first ++ x ∷ rest) (length first) ≡ Some x
numbered [] x rest = refl
numbered (y ∷ first) x rest = numbered first x rest

module _ {L : Type 0} {layout : Ghosts L} {cfg : Fields} (laws : Laws layout cfg) where
  -- the growing file of more units begins with that of the first ones
  pub begins : (before units : List (List ℕ)) → (more : List ℕ) × (layout.growing cfg (before ++ units) ≡ layout.growing cfg before ++ more)
  begins before [] = ([], ap (layout.growing cfg) (append-nil before) ∙ sym (append-nil (layout.growing cfg before)))
  begins before (unit ∷ units) =
      let next = begins (before ++ unit ∷ []) units in
      let piece : List ℕ = layout.lead cfg before (length unit) ++ unit in (
        piece ++ next.0,
        ap (layout.growing cfg) (seam before unit units) ∙ next.1 ∙ ap (λ (xs : List ℕ). xs ++ next.0) (laws.grows before unit)
            ∙ append_assoc (layout.growing cfg before) piece next.0,
      )

  -- and their places with its places
  pub places_begin : (before units : List (List ℕ)) → (rest : List Place) × (layout.places_of cfg (before ++ units) ≡ layout.places_of cfg before ++ rest)
  places_begin before [] = ([], ap (layout.places_of cfg) (append-nil before) ∙ sym (append-nil (layout.places_of cfg before)))
  places_begin before (unit ∷ units) =
      let next = places_begin (before ++ unit ∷ []) units in
      let place : Place = place_behind (layout.growing cfg before ++ layout.lead cfg before (length unit)) (layout.stream_of cfg before) unit in (
        place ∷ next.0,
        ap (layout.places_of cfg) (seam before unit units) ∙ next.1 ∙ ap (λ (xs : List Place). xs ++ next.0) (laws.more_places before unit)
            ∙ append_assoc (layout.places_of cfg before) (place ∷ []) next.0,
      )

  -- the place of a unit among others
  pub placed : (units more : List (List ℕ)) (unit : List ℕ) → (places : List Place) × (layout.places_of cfg (units ++ unit ∷ more)
      ≡ layout.places_of cfg units
      ++ place_behind (layout.growing cfg units ++ layout.lead cfg units (length unit)) (layout.stream_of cfg units) unit ∷ places)
  placed units more unit =
      let next = places_begin (units ++ unit ∷ []) more in
      let place : Place = place_behind (layout.growing cfg units ++ layout.lead cfg units (length unit)) (layout.stream_of cfg units) unit in (
        next.0,
        ap (layout.places_of cfg) (seam units unit more) ∙ next.1 ∙ ap (λ (xs : List Place). xs ++ next.0) (laws.more_places units unit)
            ∙ append_assoc (layout.places_of cfg units) (place ∷ []) next.0,
      )

  -- what stands in a growing file behind the first units
  pub behind : (before : List (List ℕ)) (unit : List ℕ) (units : List (List ℕ)) (rest : List ℕ) → (more : List ℕ)
      × (layout.growing cfg (before ++ unit ∷ units) ++ rest ≡ layout.growing cfg before ++ (layout.lead cfg before (length unit) ++ (unit ++ more)))
  behind before unit units rest =
      let next = begins (before ++ unit ∷ []) units in
      let more : List ℕ = next.0 in
      let head : List ℕ = layout.growing cfg before in
      let piece : List ℕ = layout.lead cfg before (length unit) in
      let all : layout.growing cfg (before ++ unit ∷ units) ≡ (head ++ (piece ++ unit)) ++ more =
      ap (layout.growing cfg) (seam before unit units) ∙ next.1 ∙ ap (λ (xs : List ℕ). xs ++ more) (laws.grows before unit) in (
        more ++ rest,
        ap (λ (xs : List ℕ). xs ++ rest) all ∙ append_assoc (head ++ (piece ++ unit)) more rest
            ∙ append_assoc head (piece ++ unit) (more ++ rest) ∙ ap (λ (xs : List ℕ). head ++ xs) (append_assoc piece unit (more ++ rest)),
      )

  -- where a lead and its unit stand behind the first units, the file is that of one more
  pub next : (units : List (List ℕ)) (unit rest : List ℕ)
      → layout.growing cfg units ++ (layout.lead cfg units (length unit) ++ (unit ++ rest)) ≡ layout.growing cfg (units ++ unit ∷ []) ++ rest
  next units unit rest =
      let head : List ℕ = layout.growing cfg units in
      let piece : List ℕ = layout.lead cfg units (length unit) in
      ap (λ (xs : List ℕ). head ++ xs) (sym (append_assoc piece unit rest)) ∙ sym (append_assoc head (piece ++ unit) rest)
      ∙ ap (λ (xs : List ℕ). xs ++ rest) (sym (laws.grows units unit))

  -- a unit lies behind its lead
  pub lies : (units more : List (List ℕ)) (unit rest : List ℕ)
      → take (length unit)
      (drop (length (layout.growing cfg units ++ layout.lead cfg units (length unit))) (layout.growing cfg (units ++ unit ∷ more) ++ rest)) ≡ unit
  lies units more unit rest =
      let found = behind units unit more rest in
      let head : List ℕ = layout.growing cfg units ++ layout.lead cfg units (length unit) in
      let whole : layout.growing cfg (units ++ unit ∷ more) ++ rest ≡ head ++ (unit ++ found.0) =
      found.1 ∙ sym (append_assoc (layout.growing cfg units) (layout.lead cfg units (length unit)) (unit ++ found.0)) in
      ap (λ (xs : List ℕ). take (length unit) (drop (length head) xs)) whole
      ∙ ap (λ (xs : List ℕ). take (length unit) xs) (drop_at head (unit ++ found.0) (length head) refl)
      ∙ take_at unit found.0 (length unit) refl

  -- and ends in the file
  ends_within : (units more : List (List ℕ)) (unit : List ℕ)
      → length (layout.growing cfg units ++ layout.lead cfg units (length unit)) + length unit ≤ length (layout.growing cfg (units ++ unit ∷ more))
  ends_within units more unit =
      let head : List ℕ = layout.growing cfg units in
      let piece : List ℕ = layout.lead cfg units (length unit) in
      let next = begins (units ++ unit ∷ []) more in
      let all : layout.growing cfg (units ++ unit ∷ more) ≡ (head ++ (piece ++ unit)) ++ next.0 =
      ap (layout.growing cfg) (seam units unit more) ∙ next.1 ∙ ap (λ (xs : List ℕ). xs ++ next.0) (laws.grows units unit) in
      let whole = length-append (head ++ (piece ++ unit)) next.0 in
      omega (arith, ap length all, whole, length-append head (piece ++ unit), length-append piece unit, length-append head piece)

  -- as many places as units, behind others
  counted_behind : (before units : List (List ℕ)) → length (layout.places_of cfg before) ≡ length before
      → length (layout.places_of cfg (before ++ units)) ≡ length (before ++ units)
  counted_behind before [] e = subst (λ (us : List (List ℕ)). length (layout.places_of cfg us) ≡ length us) (sym (append-nil before)) e
  counted_behind before (unit ∷ units) e =
      let place : Place = place_behind (layout.growing cfg before ++ layout.lead cfg before (length unit)) (layout.stream_of cfg before) unit in
      let here : length (layout.places_of cfg (before ++ unit ∷ [])) ≡ length (before ++ unit ∷ []) =
      omega (arith, e, ap length (laws.more_places before unit), length-append (layout.places_of cfg before) (place ∷ []), length-append before (unit ∷ [])) in
      subst (λ (us : List (List ℕ)). length (layout.places_of cfg us) ≡ length us) (append_assoc before (unit ∷ []) units)
      (counted_behind (before ++ unit ∷ []) units here)

  -- as many places as units
  pub counted : (units : List (List ℕ)) → length (layout.places_of cfg units) ≡ length units
  counted units = counted_behind [] units (ap length laws.no_places)

  -- the unit of a number lies at the place of that number
  pub numbered_lies : (units : List (List ℕ)) (unit rest : List ℕ) (place : Place) (i : ℕ)
      → slice_get (layout.places_of cfg units) i ≡ Some place → slice_get units i ≡ Some unit
      → (place.at + place.len ≤ length (layout.growing cfg units)) × (take place.len (drop place.at (layout.growing cfg units ++ rest)) ≡ unit)
  numbered_lies units unit rest place i place_is unit_is =
      let split = around units i unit unit_is in
      let first : List (List ℕ) = split.0 in
      let more : List (List ℕ) = split.1 in
      let head : List ℕ = layout.growing cfg first ++ layout.lead cfg first (length unit) in
      let at : Place = place_behind head (layout.stream_of cfg first) unit in
      let all = placed first more unit in
      let count : length (layout.places_of cfg first) ≡ i = counted first ∙ split.3 in
      let here : slice_get (layout.places_of cfg units) i ≡ Some at =
      ap (λ (us : List (List ℕ)). slice_get (layout.places_of cfg us) i) split.2
      ∙ ap (λ (ps : List Place). slice_get ps i) all.1
      ∙ ap (λ (j : ℕ). slice_get (layout.places_of cfg first ++ at ∷ all.0) j) (sym count)
      ∙ numbered (layout.places_of cfg first) at all.0 in
      let same : Some place ≡ Some at = sym place_is ∙ here in
      let is : place ≡ at = cc in
      let goal : (us : List (List ℕ)) (p : Place) → Type 0 =
      λ us p. (p.at + p.len ≤ length (layout.growing cfg us)) × (take p.len (drop p.at (layout.growing cfg us ++ rest)) ≡ unit) in
      subst (λ (p : Place). goal units p) (sym is)
      (subst (λ (us : List (List ℕ)). goal us at) (sym split.2) (ends_within first more unit, lies first more unit rest))

  -- growing files are short, if leads and units are
  fit_behind : Bounds layout cfg → (before units : List (List ℕ)) → AreUnits (layout.is_unit cfg) cfg.max_frames (before ++ units)
      → length (layout.growing cfg before) ≤ 2 ^ 32 + length before * 2 ^ 33
      → length (layout.growing cfg (before ++ units)) ≤ 2 ^ 32 + (length before + length units) * 2 ^ 33
  fit_behind bounds before [] are le = omega (arith, le, ap (λ (xs : List (List ℕ)). length (layout.growing cfg xs)) (append-nil before))
  fit_behind bounds before (unit ∷ units) are le =
      let moved = subst (λ (xs : List (List ℕ)). AreUnits (layout.is_unit cfg) cfg.max_frames xs) (seam before unit units) are in
      let first = front (layout.is_unit cfg) cfg.max_frames (before ++ unit ∷ []) units moved in
      let piece : List ℕ = layout.lead cfg before (length unit) in
      let size : length (layout.growing cfg (before ++ unit ∷ [])) ≤ 2 ^ 32 + length (before ++ unit ∷ []) * 2 ^ 33 =
      omega (
        arith,
        le,
        ap length (laws.grows before unit),
        length-append (layout.growing cfg before) (piece ++ unit),
        length-append piece unit,
        bounds.lead before unit first,
        bounds.unit unit (last_is (layout.is_unit cfg) before unit first.each),
        length-append before (unit ∷ []),
      ) in
      let rest = fit_behind bounds (before ++ unit ∷ []) units moved size in
      omega (arith, rest, ap (λ (xs : List (List ℕ)). length (layout.growing cfg xs)) (seam before unit units), length-append before (unit ∷ []))

  pub fit : Bounds layout cfg → (units : List (List ℕ)) → AreUnits (layout.is_unit cfg) cfg.max_frames units
      → length (layout.growing cfg units) ≤ 2 ^ 32 + length units * 2 ^ 33
  fit bounds units are =
      let start : length (layout.growing cfg []) ≤ 2 ^ 32 + 0 * 2 ^ 33 = omega (arith, bounds.head, ap length laws.starts) in
      let all = fit_behind bounds [] units are start in
      omega (arith, all)

  -- the same units come behind the same units
  same_behind : OneNext layout cfg → (before units others : List (List ℕ)) (rest other_rest : List ℕ)
      → AreUnits (layout.is_unit cfg) cfg.max_frames (before ++ units) → AreUnits (layout.is_unit cfg) cfg.max_frames (before ++ others)
      → length units ≡ length others
      → layout.growing cfg (before ++ units) ++ rest ≡ layout.growing cfg (before ++ others) ++ other_rest → units ≡ others
  same_behind nexts before [] [] rest other_rest are those long same = refl
  same_behind nexts before [] (other ∷ others) rest other_rest are those long same = absurd (omega arith)
  same_behind nexts before (unit ∷ units) [] rest other_rest are those long same = absurd (omega arith)
  same_behind nexts before (unit ∷ units) (other ∷ others) rest other_rest are those long same =
      let among : List (List ℕ) → Type 0 = λ xs. AreUnits (layout.is_unit cfg) cfg.max_frames xs in
      let grown : List (List ℕ) → List ℕ = layout.growing cfg in
      let a : among ((before ++ unit ∷ []) ++ units) = subst among (seam before unit units) are in
      let b : among ((before ++ other ∷ []) ++ others) = subst among (seam before other others) those in
      let left = behind before unit units rest in
      let right = behind before other others other_rest in
      let first : unit ≡ other = nexts before unit other left.0 right.0
      (front (layout.is_unit cfg) cfg.max_frames (before ++ unit ∷ []) units a)
      (front (layout.is_unit cfg) cfg.max_frames (before ++ other ∷ []) others b)
      (append_cancel_left (grown before) _ _ (sym left.1 ∙ same ∙ right.1)) in
      let c : among ((before ++ unit ∷ []) ++ others) = subst (λ (u : List ℕ). among ((before ++ u ∷ []) ++ others)) (sym first) b in
      let moved : grown ((before ++ unit ∷ []) ++ units) ++ rest ≡ grown ((before ++ other ∷ []) ++ others) ++ other_rest =
      ap (λ (xs : List (List ℕ)). grown xs ++ rest) (sym (seam before unit units)) ∙ same
      ∙ ap (λ (xs : List (List ℕ)). grown xs ++ other_rest) (seam before other others) in
      let again : grown ((before ++ unit ∷ []) ++ units) ++ rest ≡ grown ((before ++ unit ∷ []) ++ others) ++ other_rest =
      moved ∙ ap (λ (u : List ℕ). grown ((before ++ u ∷ []) ++ others) ++ other_rest) (sym first) in
      let tails : units ≡ others = same_behind nexts (before ++ unit ∷ []) units others rest other_rest a c (omega arith) again in
      λ i. first i ∷ tails i

  -- a file begins with the growing file of one list of so many units
  pub same_units : OneNext layout cfg → (units others : List (List ℕ)) (rest other_rest : List ℕ)
      → AreUnits (layout.is_unit cfg) cfg.max_frames units → AreUnits (layout.is_unit cfg) cfg.max_frames others
      → length units ≡ length others → layout.growing cfg units ++ rest ≡ layout.growing cfg others ++ other_rest → units ≡ others
  same_units nexts units others rest other_rest are those long same = same_behind nexts [] units others rest other_rest are those long same
