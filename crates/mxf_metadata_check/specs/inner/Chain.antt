-- What is kept of each set while sets are followed by their names (own).
use Rattle.std.specs.Prelude.{◌≡◌, zero, suc, ◌+◌, drop, ℕ, Bool, List, [], ◌∷◌, map, Option, Some, None, if◌then◌else◌}
use Rattle.std.specs.List.{flat_map}
use Rattle.mxf_metadata.specs.declared.labels.TheConstants.{PICTURE_KIND}
use Rattle.mxf_metadata.specs.declared.tags.TheConstants.{DATA_DEFINITION}
use Rattle.mxf_op1a.specs.Metadata.{SetAt, all_of_kind, is_value, least, of_kind, places_but, set_with, value_of}

-- of each set, the least of places that it has
abbrev pub HasLeast : (SetAt → List ℕ) → List SetAt → List (Option ℕ) → Type 0
HasLeast places sets values = values ≡ map (λ s. least (places s)) sets

-- of each set, whether it keeps a test
abbrev pub Tells : (SetAt → Bool) → List SetAt → List Bool → Type 0
Tells test sets flags = flags ≡ map test sets

-- the place of a set that doesn't keep a test
abbrev pub place_but : (SetAt → Bool) → SetAt → List ℕ
place_but test s = places_but test (s ∷ [])

-- places of sets that keep a test
abbrev pub places_if : (SetAt → Bool) → (SetAt → List ℕ) → SetAt → List ℕ
places_if test places s = if test s then places s else []

-- the sets of a kind with identifiers
abbrev pub with_ids : List SetAt → ℕ → List (List ℕ) → List SetAt
with_ids sets kind ids = flat_map (λ id. of_kind kind (set_with sets id)) ids

-- of sets, this one has this number
abbrev pub IsNth : List SetAt → ℕ → SetAt → Type 0
IsNth [] k s = ⊥
IsNth (first ∷ sets) zero s = first ≡ s
IsNth (first ∷ sets) (suc k) s = IsNth sets k s

-- the next set of a kind from a number on, if there is one
abbrev pub IsNext : List SetAt → ℕ → ℕ → Option ℕ → Type 0
IsNext sets kind start None = all_of_kind kind (drop start sets) ≡ []
IsNext sets kind start (Some k) =
    (s : SetAt) × IsNth sets k s × (all_of_kind kind (drop start sets) ≡ s ∷ all_of_kind kind (drop (k + 1) sets))

-- a sequence is of pictures
abbrev pub is_picture : SetAt → Bool
is_picture s = is_value PICTURE_KIND (value_of DATA_DEFINITION s)
