-- The growing file and its places, unit by unit.
use Rattle.std.proofs.Common.{◌≡◌, ℕ, ◌+◌, zero, suc, List, [], ◌∷◌, ◌++◌, length, take, map, refl, sym, ap, ◌∙◌, append_assoc, append-nil}
use Rattle.std.proofs.lemmas.List.{length-append}
use Rattle.take_layout.specs.Grown.{grown, grown_behind, lying, lying_behind}
use Rattle.take_layout.specs.Takes.{place_behind}
use Rattle.take_layout.specs.declared.place.Place.{Place}

module _ (head : List ℕ) (lead : List (List ℕ) → ℕ → List ℕ) where
  -- one more unit behind others
  pub more_behind : (before units : List (List ℕ)) (unit : List ℕ)
      → grown_behind lead before (units ++ unit ∷ []) ≡ grown_behind lead before units ++ (lead (before ++ units) (length unit) ++ unit)
  unfolding grown_behind
  more_behind before [] unit = rw (append-nil before, append-nil unit) refl
  more_behind before (first ∷ units) unit =
      let grown_last : List (List ℕ) → List ℕ = λ us. grown_behind lead (before ++ first ∷ []) units ++ (lead us (length unit) ++ unit) in
      let later : grown_behind lead (before ++ first ∷ []) (units ++ unit ∷ []) ≡ grown_last (before ++ (first ∷ units)) =
      more_behind (before ++ first ∷ []) units unit ∙ ap grown_last (append_assoc before (first ∷ []) units) in
      rw (later, append_assoc, append_assoc) refl

  -- one more unit
  pub grown_more : (units : List (List ℕ)) (unit : List ℕ)
      → grown head lead (units ++ unit ∷ []) ≡ grown head lead units ++ (lead units (length unit) ++ unit)
  grown_more units unit =
      ap (λ (bytes : List ℕ). head ++ bytes) (more_behind [] units unit)
      ∙ sym (append_assoc head (grown_behind lead [] units) (lead units (length unit) ++ unit))

  -- no unit
  pub grown_none : grown head lead [] ≡ head
  unfolding grown_behind
  grown_none = append-nil head

  -- where one more unit ends
  pub grown_end : (units : List (List ℕ)) (unit : List ℕ)
      → length (grown head lead units ++ lead units (length unit)) + length unit ≡ length (grown head lead (units ++ unit ∷ []))
  grown_end units unit =
      sym (ap length (grown_more units unit) ∙ ap length (sym (append_assoc (grown head lead units) (lead units (length unit)) unit))
      ∙ length-append (grown head lead units ++ lead units (length unit)) unit)

module _ (stream : List (List ℕ) → ℕ) (head : List ℕ) (lead : List (List ℕ) → ℕ → List ℕ) where
  -- the place of a unit behind others
  abbrev place_of : List (List ℕ) → List ℕ → Place
  place_of units unit = place_behind (grown head lead units ++ lead units (length unit)) (stream units) unit

  -- the places of one more unit behind others
  lying_more_behind : (before units : List (List ℕ)) (unit : List ℕ)
      → lying_behind stream head lead before (units ++ unit ∷ []) ≡ lying_behind stream head lead before units ++ place_of (before ++ units) unit ∷ []
  unfolding lying_behind
  lying_more_behind before [] unit = ap (λ (us : List (List ℕ)). place_of us unit ∷ []) (sym (append-nil before))
  lying_more_behind before (first ∷ units) unit =
      let places : List Place = lying_behind stream head lead (before ++ first ∷ []) units in
      ap (λ (ps : List Place). place_of before first ∷ ps)
      (lying_more_behind (before ++ first ∷ []) units unit
      ∙ ap (λ (us : List (List ℕ)). places ++ place_of us unit ∷ []) (append_assoc before (first ∷ []) units))

  -- the places of one more unit
  pub lying_more : (units : List (List ℕ)) (unit : List ℕ)
      → lying stream head lead (units ++ unit ∷ [])
      ≡ lying stream head lead units ++ place_behind (grown head lead units ++ lead units (length unit)) (stream units) unit ∷ []
  lying_more units unit = lying_more_behind [] units unit

  -- the places of no unit
  pub lying_none : lying stream head lead [] ≡ []
  unfolding lying_behind
  lying_none = refl

  -- as many places as units
  pub lying_count : (before units : List (List ℕ)) → length (lying_behind stream head lead before units) ≡ length units
  unfolding lying_behind
  lying_count before [] = refl
  lying_count before (unit ∷ units) = ap suc (lying_count (before ++ unit ∷ []) units)

  -- the places of the first units
  pub lying_take : (before units : List (List ℕ)) (n : ℕ)
      → take n (lying_behind stream head lead before units) ≡ lying_behind stream head lead before (take n units)
  unfolding lying_behind
  lying_take before units zero = refl
  lying_take before [] (suc n) = refl
  lying_take before (unit ∷ units) (suc n) = ap (λ (places : List Place). place_of before unit ∷ places) (lying_take (before ++ unit ∷ []) units n)

  -- their stream offsets, as any list of them that goes on unit by unit
  pub lying_streams : (streams : List (List ℕ) → List (List ℕ) → List ℕ) → ((before : List (List ℕ)) → streams before [] ≡ [])
      → ((before units : List (List ℕ)) (unit : List ℕ) → streams before (unit ∷ units) ≡ stream before ∷ streams (before ++ unit ∷ []) units)
      → (before units : List (List ℕ)) → map (λ (place : Place). place.stream) (lying_behind stream head lead before units) ≡ streams before units
  unfolding lying_behind
  lying_streams streams none more before [] = sym (none before)
  lying_streams streams none more before (unit ∷ units) =
      ap (λ (ns : List ℕ). stream before ∷ ns) (lying_streams streams none more (before ++ unit ∷ []) units) ∙ sym (more before units unit)

  -- what the last place says, by any walk along the places: where units have it and their places say so, it is that of all units
  pub lying_last : (say : Place → ℕ) (last : ℕ → List Place → ℕ) (reach : List (List ℕ) → ℕ) → ((n : ℕ) → last n [] ≡ n)
      → ((n : ℕ) (place : Place) (places : List Place) → last n (place ∷ places) ≡ last (say place) places)
      → ((units : List (List ℕ)) (unit : List ℕ)
      → say (place_behind (grown head lead units ++ lead units (length unit)) (stream units) unit) ≡ reach (units ++ unit ∷ []))
      → (before units : List (List ℕ)) → last (reach before) (lying_behind stream head lead before units) ≡ reach (before ++ units)
  unfolding lying_behind
  lying_last say last reach none more says before [] = none (reach before) ∙ ap reach (sym (append-nil before))
  lying_last say last reach none more says before (unit ∷ units) =
      let places : List Place = lying_behind stream head lead (before ++ unit ∷ []) units in
      more (reach before) (place_of before unit) places ∙ ap (λ (n : ℕ). last n places) (says before unit)
      ∙ lying_last say last reach none more says (before ++ unit ∷ []) units
      ∙ ap reach (append_assoc before (unit ∷ []) units)

  -- where they end
  pub lying_end : (end : ℕ → List Place → ℕ) → ((n : ℕ) → end n [] ≡ n)
      → ((n : ℕ) (place : Place) (places : List Place) → end n (place ∷ places) ≡ end (place.at + place.len) places)
      → (before units : List (List ℕ))
      → end (length (grown head lead before)) (lying_behind stream head lead before units) ≡ length (grown head lead (before ++ units))
  lying_end end none more before units =
      lying_last (λ place. place.at + place.len) end (λ us. length (grown head lead us)) none more (grown_end head lead) before units
