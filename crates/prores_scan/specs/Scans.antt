-- The two scans, the zigzag orders of a block (RDD 36). docs/formats/frames.md, "Scans".
use Rattle.std.specs.Prelude.{◌≡◌, ◌<◌, ℕ, List, [], ◌∷◌, slice_index}
use Rattle.prores_scan.specs.declared.scans.Scan.{Scan}
use Rattle.prores_scan.specs.declared.scans.Scan.TheVariants.{Progressive, Field}

-- the raster places in the order of the progressive scan
unfoldable pub progressive_places : List ℕ
progressive_places =
    0 ∷ 1 ∷ 8 ∷ 9 ∷ 2 ∷ 3 ∷ 10 ∷ 11 ∷ 16 ∷ 17 ∷ 24 ∷ 25 ∷ 18 ∷ 19 ∷ 26 ∷ 27 ∷ 4 ∷ 5 ∷ 12 ∷ 20 ∷ 13 ∷ 6 ∷ 7 ∷
    14 ∷ 21 ∷ 28 ∷ 29 ∷ 22 ∷ 15 ∷ 23 ∷ 30 ∷ 31 ∷ 32 ∷ 33 ∷ 40 ∷ 48 ∷ 41 ∷ 34 ∷ 35 ∷ 42 ∷ 49 ∷ 56 ∷ 57 ∷ 50 ∷
    43 ∷ 36 ∷ 37 ∷ 44 ∷ 51 ∷ 58 ∷ 59 ∷ 52 ∷ 45 ∷ 38 ∷ 39 ∷ 46 ∷ 53 ∷ 60 ∷ 61 ∷ 54 ∷ 47 ∷ 55 ∷ 62 ∷ 63 ∷ []

-- the raster places in the order of the field scan
unfoldable pub field_places : List ℕ
field_places =
    0 ∷ 8 ∷ 1 ∷ 9 ∷ 16 ∷ 24 ∷ 17 ∷ 25 ∷ 2 ∷ 10 ∷ 3 ∷ 11 ∷ 18 ∷ 26 ∷ 19 ∷ 27 ∷ 32 ∷ 40 ∷ 33 ∷ 34 ∷ 41 ∷ 48 ∷ 56 ∷
    49 ∷ 42 ∷ 35 ∷ 43 ∷ 50 ∷ 57 ∷ 58 ∷ 51 ∷ 59 ∷ 4 ∷ 12 ∷ 5 ∷ 6 ∷ 13 ∷ 20 ∷ 28 ∷ 21 ∷ 14 ∷ 7 ∷ 15 ∷ 22 ∷ 29 ∷
    36 ∷ 44 ∷ 37 ∷ 30 ∷ 23 ∷ 31 ∷ 38 ∷ 45 ∷ 52 ∷ 60 ∷ 53 ∷ 46 ∷ 39 ∷ 47 ∷ 54 ∷ 61 ∷ 62 ∷ 55 ∷ 63 ∷ []

-- the raster places in the order of a scan
abbrev pub places : Scan → List ℕ
places Progressive = progressive_places
places Field = field_places

-- the raster place of the k-th coefficient in scan order
abbrev pub place_of : Scan → ℕ → ℕ
place_of scan k = slice_index (places scan) k

-- the coefficient of the raster place p is the k-th in scan order, and no other is
pub record IsPosition (scan : Scan) (p k : ℕ) : Type 0 where
  pub place_within : p < 64
  pub within : k < 64
  pub entry : place_of scan k ≡ p
  pub only : (j : ℕ) → j < 64 → place_of scan j ≡ p → j ≡ k
