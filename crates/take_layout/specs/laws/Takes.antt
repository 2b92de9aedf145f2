-- Units that lie at places, one more of them, and the bounds of what stands between them.
use Rattle.std.proofs.Common.{◌≡◌, ℕ, ◌+◌, ◌-◌, ◌<◌, ◌≤◌, List, [], ◌∷◌, ◌++◌, length, refl, sym, ap, ◌∙◌, arith, inl, inr, ◌⊎◌}
use Rattle.std.proofs.lemmas.List.{length-append, same_from_push}
use Rattle.std.proofs.lemmas.List.Elements.{All-nil, All-push}
use Rattle.rec_bytes.specs.Configuration.{Fields}
use Rattle.take_layout.specs.Takes.{AreUnits, IsTake, place_behind}
use Rattle.take_layout.specs.declared.layout.TakeLayout.{Ghosts}
use Rattle.take_layout.specs.declared.place.Place.{Place}
use Rattle.take_layout.specs.inner.Keeping.{EndsFile}
use Rattle.take_layout.specs.laws.Files.{Laws, counted}

-- a list is empty or has a last element
snoc_more : {X : Type 0} (x : X) (xs : List X) → (xs ≡ []) ⊎ ((ys : List X) × (y : X) × (xs ≡ ys ++ y ∷ [])) → (ys : List X) × (y : X) × (x ∷ xs ≡ ys ++ y ∷ [])
snoc_more x xs (inl e) = ([], x, ap (λ t. x ∷ t) e)
snoc_more x xs (inr (ys, y, e)) = (x ∷ ys, y, ap (λ t. x ∷ t) e)

snoc_of : {X : Type 0} (xs : List X) → (xs ≡ []) ⊎ ((ys : List X) × (y : X) × (xs ≡ ys ++ y ∷ []))
snoc_of [] = inl refl
snoc_of (x ∷ xs) = inr (snoc_more x xs (snoc_of xs))

no_elements : {X : Type 0} (xs : List X) → length xs ≡ 0 → xs ≡ []
no_elements [] e = refl
no_elements (x ∷ xs) e = absurd (omega arith)

-- a unit more is one of the take
pub units_more : (is_unit : List ℕ → Type 0) (most : ℕ) (units : List (List ℕ)) (unit : List ℕ) → 1 ≤ most
    → AreUnits is_unit (most - 1) units → is_unit unit → AreUnits is_unit most (units ++ unit ∷ [])
units_more is_unit most units unit some a u = record {
  each = All-push is_unit units unit a.each u;
  few = let few = a.few in omega (arith, length-append units (unit ∷ []));
}

module _ {L : Type 0} {layout : Ghosts L} {cfg : Fields} (laws : Laws layout cfg) where
  -- where no unit lies anywhere the file is its head
  pub ends_none : (at : ℕ) → at ≡ length (layout.head cfg) → EndsFile layout cfg [] at
  ends_none at is units lie =
      let none : length units ≡ 0 = sym (counted laws units) ∙ ap (length {A = Place}) (sym lie) in
      is ∙ ap (length {A = ℕ}) (sym laws.starts ∙ ap (layout.growing cfg) (sym (no_elements units none)))

  -- one unit more
  ends_at : (places : List Place) (p : Place) (units : List (List ℕ)) → places ++ p ∷ [] ≡ layout.places_of cfg units
      → (units ≡ []) ⊎ ((us : List (List ℕ)) × (u : List ℕ) × (units ≡ us ++ u ∷ [])) → p.at + p.len ≡ length (layout.growing cfg units)
  ends_at places p units lie (inl e) =
      let none : length (places ++ p ∷ []) ≡ 0 = ap (length {A = Place}) (lie ∙ (ap (layout.places_of cfg) e ∙ laws.no_places)) in
      absurd (omega (arith, length-append places (p ∷ [])))
  ends_at places p units lie (inr (us, u, e)) =
      let head : List ℕ = layout.growing cfg us in
      let piece : List ℕ = layout.lead cfg us (length u) in
      let both = lie ∙ (ap (layout.places_of cfg) e ∙ laws.more_places us u) in
      let last = (same_from_push places (layout.places_of cfg us) p _ both).1 in
      let at_is : p.at ≡ length (head ++ piece) = ap (λ (q : Place). q.at) last in
      let len_is : p.len ≡ length u = ap (λ (q : Place). q.len) last in
      let long : length (layout.growing cfg units) ≡ length (head ++ (piece ++ u)) = ap (length {A = ℕ}) (ap (layout.growing cfg) e ∙ laws.grows us u) in
      omega (arith, at_is, len_is, long, length-append head piece, length-append head (piece ++ u), length-append piece u)

  pub ends_more : (places : List Place) (p : Place) (at : ℕ) → at ≡ p.at + p.len → EndsFile layout cfg (places ++ p ∷ []) at
  ends_more places p at is units lie = is ∙ ends_at places p units lie (snoc_of units)

  -- no units lie at no places
  pub take_none : (most : ℕ) → IsTake (layout.is_unit cfg) (layout.places_of cfg) most []
  take_none most = record { units = []; are_units = record { each = All-nil (layout.is_unit cfg); few = omega arith }; lie = sym laws.no_places }

  -- units that are fewer than the most leave room for one
  pub take_few : (most : ℕ) (places : List Place) → IsTake (layout.is_unit cfg) (layout.places_of cfg) most places → length places < most
      → IsTake (layout.is_unit cfg) (layout.places_of cfg) (most - 1) places
  take_few most places t less =
      let count : length places ≡ length t.units = ap (length {A = Place}) t.lie ∙ counted laws t.units in
      record { units = t.units; are_units = record { each = t.are_units.each; few = omega (arith, count, less) }; lie = t.lie }

  -- the places of the units, one unit more
  pub placed_more : (places : List Place) (p : Place) (units : List (List ℕ)) (unit : List ℕ) → places ≡ layout.places_of cfg units
      → p ≡ place_behind (layout.growing cfg units ++ layout.lead cfg units (length unit)) (layout.stream_of cfg units) unit
      → places ++ p ∷ [] ≡ layout.places_of cfg (units ++ unit ∷ [])
  placed_more places p units unit lie is =
      ap (λ (xs : List Place). xs ++ p ∷ []) lie
      ∙ (ap (λ (q : Place). layout.places_of cfg units ++ q ∷ []) is ∙ sym (laws.more_places units unit))

  -- its place follows those of the units before
  pub take_more : (most : ℕ) (places : List Place) (p : Place) (unit : List ℕ) → 1 ≤ most
      → IsTake (layout.is_unit cfg) (layout.places_of cfg) (most - 1) places → layout.is_unit cfg unit
      → ((units : List (List ℕ)) → places ≡ layout.places_of cfg units
      → p ≡ place_behind (layout.growing cfg units ++ layout.lead cfg units (length unit)) (layout.stream_of cfg units) unit)
      → IsTake (layout.is_unit cfg) (layout.places_of cfg) most (places ++ p ∷ [])
  take_more most places p unit some t u place = record {
    units = t.units ++ unit ∷ [];
    are_units = units_more (layout.is_unit cfg) most t.units unit some t.are_units u;
    lie = placed_more places p t.units unit t.lie (place t.units t.lie);
  }

module _ {L : Type 0} (layout : Ghosts L) (cfg : Fields) where
  -- a lead fits where the layout says so of the units that lie at the places
  pub lead_fits : (most : ℕ) (places : List Place) (unit : List ℕ) (len : ℕ) → 1 ≤ most
      → IsTake (layout.is_unit cfg) (layout.places_of cfg) (most - 1) places → layout.is_unit cfg unit
      → ((units : List (List ℕ)) (n : ℕ) → places ≡ layout.places_of cfg units → len ≡ length (layout.lead cfg units n))
      → ((units : List (List ℕ)) (unit : List ℕ) → AreUnits (layout.is_unit cfg) most (units ++ unit ∷ [])
      → length (layout.lead cfg units (length unit)) ≤ layout.lead_most cfg)
      → len ≤ layout.lead_most cfg
  lead_fits most places unit len some t u long fits =
      let is = long t.units (length unit) t.lie in
      let small = fits t.units unit (units_more (layout.is_unit cfg) most t.units unit some t.are_units u) in
      omega (arith, is, small)

  -- and so does a tail
  pub tail_fits : (most : ℕ) (places : List Place) (len : ℕ) → IsTake (layout.is_unit cfg) (layout.places_of cfg) most places
      → ((units : List (List ℕ)) → places ≡ layout.places_of cfg units → len ≡ length (layout.tail cfg units))
      → ((units : List (List ℕ)) → AreUnits (layout.is_unit cfg) most units → length (layout.tail cfg units) ≤ layout.tail_most cfg)
      → len ≤ layout.tail_most cfg
  tail_fits most places len t long fits =
      let is = long t.units t.lie in
      let small = fits t.units t.are_units in
      omega (arith, is, small)
