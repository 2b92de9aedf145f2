-- Units of a take and the places where they lie (own). docs/ARCHITECTURE.md, "A take's file".
use Rattle.std.specs.Prelude.{◌≡◌, ◌≤◌, ℕ, List, length, All}
use Rattle.take_layout.specs.declared.place.Place.{Place}

-- at most so many units
pub record AreUnits (is_unit : List ℕ → Type 0) (most : ℕ) (units : List (List ℕ)) : Type 0 where
  pub each : All is_unit units
  pub few : length units ≤ most

-- the places are those of at most so many units
pub record IsTake (is_unit : List ℕ → Type 0) (places_of : List (List ℕ) → List Place) (most : ℕ) (places : List Place) : Type 0 where
  pub units : List (List ℕ)
  pub are_units : AreUnits is_unit most units
  pub lie : places ≡ places_of units

-- the place of a unit that stands behind these bytes of the file
abbrev pub place_behind : List ℕ → ℕ → List ℕ → Place
place_behind before stream unit = record { at = length before; stream = stream; len = length unit }
