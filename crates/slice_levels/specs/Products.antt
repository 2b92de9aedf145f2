-- The products of a part's levels (RDD 36). docs/formats/frames.md, "Quantiser".
use Rattle.std.specs.Prelude.{ℕ, ◌+◌, ◌*◌, ◌^◌, ◌<◌, ◌≤◌, ◌≡◌, ℤ, List}
use Rattle.std.specs.Int.RustNames.{unsigned_abs}
use Rattle.prores_scan.specs.declared.scans.Scan.{Scan}
use Rattle.prores_scan.specs.declared.products.CoefficientRange.{CoefficientRange}
use Rattle.prores_scan.specs.Levels.{product_of}
use Rattle.prores_scan.specs.Scans.{place_of, IsPosition}
use Rattle.whole_transform.specs.Sums.{at}
use Rattle.slice_levels.specs.Interleaved.{entry_of, weight_of}

-- the product of block b at the scan position k
abbrev pub product_at : Scan → List ℕ → ℕ → ℕ → List ℤ → ℕ → ℕ → ℤ
product_at scan weights scale count levels k b =
    product_of (at levels (entry_of count k b)) (weight_of scan weights k) scale

-- every product stands where its level does
abbrev pub AreProductsOf : Scan → List ℕ → ℕ → ℕ → List ℤ → List ℤ → Type 0
AreProductsOf scan weights scale count levels products =
    (b k : ℕ) → b < count → k < 64
    → at products (entry_of count k b) ≡ product_at scan weights scale count levels k b

-- every product is at most 2^22 in size
abbrev pub InRange : Scan → List ℕ → ℕ → ℕ → List ℤ → Type 0
InRange scan weights scale count levels =
    (b k : ℕ) → b < count → k < 64 → unsigned_abs (product_at scan weights scale count levels k b) ≤ 2 ^ 22

-- the fault names the first product above 2^22 in size, block by block and each in raster order
pub record IsFirstAbove
    (scan : Scan) (weights : List ℕ) (scale count : ℕ) (levels : List ℤ) (fault : CoefficientRange) : Type 0 where
  pub within : fault.block < count
  pub k : ℕ
  pub position : IsPosition scan fault.place k
  pub above : 2 ^ 22 < unsigned_abs (product_at scan weights scale count levels k fault.block)
  pub first : (b j : ℕ) → b < count → j < 64 → 64 * b + place_of scan j < 64 * fault.block + fault.place
      → unsigned_abs (product_at scan weights scale count levels j b) ≤ 2 ^ 22
