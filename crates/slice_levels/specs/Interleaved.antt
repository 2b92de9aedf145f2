-- The interleaved list of a slice's part: scan position by scan position the numbers of all its blocks (RDD 36).
-- docs/formats/frames.md, "Codes".
use Rattle.std.specs.Prelude.{ℕ, ◌+◌, ◌*◌, ◌<◌, ◌≡◌, ℤ, List, slice_index}
use Rattle.prores_scan.specs.declared.scans.Scan.{Scan}
use Rattle.prores_scan.specs.Scans.{place_of}
use Rattle.whole_transform.specs.Sums.{at}

-- the entry of block b at the scan position k, in a part of so many blocks
abbrev pub entry_of : ℕ → ℕ → ℕ → ℕ
entry_of count k b = k * count + b

-- the weight at the scan position k, of a matrix in raster order
abbrev pub weight_of : Scan → List ℕ → ℕ → ℕ
weight_of scan weights k = slice_index weights (place_of scan k)

-- a block in raster order has the numbers of block b of an interleaved list
abbrev pub IsBlockOf : Scan → ℕ → List ℤ → ℕ → List ℤ → Type 0
IsBlockOf scan count numbers b block = (k : ℕ) → k < 64 → at block (place_of scan k) ≡ at numbers (entry_of count k b)
