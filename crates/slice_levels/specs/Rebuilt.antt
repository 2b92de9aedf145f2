-- The blocks of samples that a part's levels give (own). docs/formats/frames.md, "Transform".
use Rattle.std.specs.Prelude.{ℕ, ◌<◌, ℤ, List, [], length, get_or}
use Rattle.prores_scan.specs.declared.scans.Scan.{Scan}
use Rattle.whole_transform.specs.Transform.{IsInverse}
use Rattle.slice_levels.specs.Interleaved.{IsBlockOf}
use Rattle.slice_levels.specs.Products.{AreProductsOf}

-- a block is that of the products of block b of an interleaved list
pub record IsInverseOf (scan : Scan) (count : ℕ) (products : List ℤ) (b : ℕ) (block : List ℕ) : Type 0 where
  pub raster : List ℤ
  pub ordered : IsBlockOf scan count products b raster
  pub inverse : IsInverse raster block

-- so is each block
abbrev pub AreInversesOf : Scan → List ℤ → List (List ℕ) → Type 0
AreInversesOf scan products blocks =
    (b : ℕ) → b < length blocks → IsInverseOf scan (length blocks) products b (get_or blocks b [])

-- the blocks are those of the products of these levels
pub record AreRebuilt (scan : Scan) (weights : List ℕ) (scale : ℕ) (levels : List ℤ) (blocks : List (List ℕ)) : Type 0 where
  pub products : List ℤ
  pub multiplied : AreProductsOf scan weights scale (length blocks) levels products
  pub inverse : AreInversesOf scan products blocks
