-- Products of 16 bits (own).
use Rattle.std.specs.Prelude.{◌≡◌, ◌<◌, ◌*◌, ◌/◌, ◌^◌, ℕ, ℤ, List, map}
use Rattle.std.specs.Int.RustNames.{unsigned_abs}
use Rattle.std.specs.List.{range_with_len}
use Rattle.prores_scan.specs.declared.scans.Scan.{Scan}
use Rattle.prores_scan.specs.Levels.{product_of}
use Rattle.whole_transform.specs.Sums.{at}
use Rattle.slice_levels.specs.Interleaved.{weight_of}

-- a product has 16 bits, and stands at a place
pub record ArePut (n : ℕ) (lanes : List ℤ) (product : ℤ) : Type 0 where
  pub small : unsigned_abs product < 2 ^ 15
  pub put : at lanes n ≡ product

-- the products of levels, each at the entry of its level
abbrev pub products_of : Scan → List ℕ → ℕ → ℕ → List ℤ → List ℤ
products_of scan weights scale count levels =
    map (λ n. product_of (at levels n) (weight_of scan weights (n / count)) scale) (range_with_len 0 (64 * count))
