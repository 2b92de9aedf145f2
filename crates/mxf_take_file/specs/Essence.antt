-- The essence stream of units: their picture elements, joined (SMPTE ST 379-2). docs/FORMATS.md, "A take's file".
use Rattle.std.specs.Prelude.{ℕ, List, [], ◌∷◌, ◌++◌, length}
use Rattle.std.specs.List.{flat_map}
use Rattle.mxf_names.specs.Picture.{picture_element}

-- the essence stream of the units
abbrev pub essence : List (List ℕ) → List ℕ
essence units = flat_map picture_element units

-- the same of units behind others
unfoldable pub offsets_behind : List (List ℕ) → List (List ℕ) → List ℕ
offsets_behind before [] = []
offsets_behind before (unit ∷ units) = length (essence before) ∷ offsets_behind (before ++ unit ∷ []) units

-- the stream offset of each unit: the length of the elements before its own
abbrev pub stream_offsets : List (List ℕ) → List ℕ
stream_offsets units = offsets_behind [] units
