-- The products of whole blocks of levels. docs/formats/frames.md, "Quantiser".
use Rattle.std.specs.Prelude.{◌≡◌, ◌<◌, ◌≤◌, ◌+◌, ◌*◌, ◌%◌, ◌^◌, ℕ, ℤ, List, pos, length, slice_index, slice_index_or}
use Rattle.std.specs.Int.RustNames.{unsigned_abs}
use Rattle.prores_scan.specs.declared.products.CoefficientRange.{CoefficientRange}
use Rattle.prores_scan.specs.Levels.{product_of}

-- the product of the n-th level, counted through the blocks in raster order
abbrev pub product_at : List ℤ → List ℕ → ℕ → ℕ → ℤ
product_at levels weights scale n =
    product_of (slice_index_or levels n (pos 0)) (slice_index weights (n % 64)) scale

-- no level has a size of 2 ^ 40 or more
abbrev pub AreBounded : List ℤ → Type 0
AreBounded levels =
    (n : ℕ) → n < length levels → unsigned_abs (slice_index_or levels n (pos 0)) < 2 ^ 40

-- the first n products are at most 2^22 in size, and stand in `out`
pub record Written
    (levels : List ℤ) (weights : List ℕ) (scale : ℕ) (out : List ℤ) (n : ℕ) : Type 0 where
  pub in_range : (k : ℕ) → k < n → unsigned_abs (product_at levels weights scale k) ≤ 2 ^ 22
  pub products : (k : ℕ) → k < n → slice_index_or out k (pos 0) ≡ product_at levels weights scale k

-- the number of the level that a fault names
abbrev pub fault_at : CoefficientRange → ℕ
fault_at fault = 64 * fault.block + fault.place

-- the fault names the first product above 2^22 in size
pub record IsFirstAbove
    (levels : List ℤ) (weights : List ℕ) (scale : ℕ) (fault : CoefficientRange) : Type 0 where
  pub place : fault.place < 64
  pub within : fault_at fault < length levels
  pub above : 2 ^ 22 < unsigned_abs (product_at levels weights scale (fault_at fault))
  pub first : (k : ℕ) → k < fault_at fault → unsigned_abs (product_at levels weights scale k) ≤ 2 ^ 22
