-- A growing file and the places of its units, whatever its head, leads and stream offsets are (own).
-- docs/ARCHITECTURE.md, "A take's file".
use Rattle.std.specs.Prelude.{ℕ, List, [], ◌∷◌, ◌++◌, length}
use Rattle.take_layout.specs.Takes.{place_behind}
use Rattle.take_layout.specs.declared.place.Place.{Place}

-- units behind others, each behind its lead
unfoldable pub grown_behind : (List (List ℕ) → ℕ → List ℕ) → List (List ℕ) → List (List ℕ) → List ℕ
grown_behind lead before [] = []
grown_behind lead before (unit ∷ units) = lead before (length unit) ++ (unit ++ grown_behind lead (before ++ unit ∷ []) units)

-- the head, and then each unit behind its lead
abbrev pub grown : List ℕ → (List (List ℕ) → ℕ → List ℕ) → List (List ℕ) → List ℕ
grown head lead units = head ++ grown_behind lead [] units

-- the places of units behind others, by the stream offset of the unit behind any
unfoldable pub lying_behind : (List (List ℕ) → ℕ) → List ℕ → (List (List ℕ) → ℕ → List ℕ) → List (List ℕ) → List (List ℕ) → List Place
lying_behind stream head lead before [] = []
lying_behind stream head lead before (unit ∷ units) =
    place_behind (grown head lead before ++ lead before (length unit)) (stream before) unit
    ∷ lying_behind stream head lead (before ++ unit ∷ []) units

-- where the units lie in that file
abbrev pub lying : (List (List ℕ) → ℕ) → List ℕ → (List (List ℕ) → ℕ → List ℕ) → List (List ℕ) → List Place
lying stream head lead units = lying_behind stream head lead [] units
