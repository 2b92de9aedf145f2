-- Weights and scales. docs/formats/frames.md, "Quantiser".
use Rattle.std.specs.Prelude.{◌≡◌, ◌<◌, ◌≤◌, ◌+◌, ◌-◌, ◌*◌, ◌/◌, ◌%◌, ◌==◌, ℕ, Bool, List, slice_index, if◌then◌else◌, nat_le}

-- the weight of a kind at a row and a column: kind 0 (RDD 36), kind 1 (own)
abbrev pub weight_at : ℕ → Bool → ℕ → ℕ → ℕ
weight_at kind chroma row column =
    if kind == 0 then 4 else (if chroma then 4 + row + column else 4 + (row + column) / 2)

-- the matrix of a kind in raster order
abbrev pub AreWeights : ℕ → Bool → List ℕ → Type 0
AreWeights kind chroma matrix =
    (p : ℕ) → p < 64 → slice_index matrix p ≡ weight_at kind chroma (p / 8) (p % 8)

-- no weight is below 4 or above 18
abbrev pub AreSmall : List ℕ → Type 0
AreSmall matrix = (p : ℕ) → p < 64 → (4 ≤ slice_index matrix p) × (slice_index matrix p ≤ 18)

-- the scale of an index from 1 to 224 (RDD 36)
abbrev pub scale_of : ℕ → ℕ
scale_of index = if nat_le index 128 then index else 128 + 4 * (index - 128)
