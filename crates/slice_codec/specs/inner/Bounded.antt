-- Indices at which a slice can't fit, by a bound of its bits (own). docs/formats/frames.md, "Rate rule".
use Rattle.std.specs.Prelude.{◌≤◌, ◌<◌, ◌+◌, ◌*◌, ◌/◌, ℕ, List, length}
use Rattle.prores_scan.specs.WeightsAndScales.{scale_of}
use Rattle.slice_parts.specs.Bound.{part_bound, numbers_at, AreLeft}
use Rattle.slice_parts.specs.Component.{signed_levels}
use Rattle.slice_parts.specs.declared.bound.Least.{Least}
use Rattle.slice_codec.specs.declared.search.Bounds.{Bounds}

-- a number of bits that the three parts of half steps have at least at an index
abbrev pub slice_bound : ℕ → List ℕ → List ℕ → List ℕ → ℕ
slice_bound index y cb cr =
    part_bound (scale_of index) (length y / 64) y + part_bound (scale_of index) (length cb / 64) cb + part_bound (scale_of index) (length cr / 64) cr

-- at each index from the first up to another the slice has more bits than there is room for
abbrev pub AllPass : ℕ → ℕ → ℕ → List ℕ → List ℕ → List ℕ → Type 0
AllPass room first to y cb cr = (i : ℕ) → first ≤ i → i < to → 8 * room < 48 + slice_bound i y cb cr

-- a part of half steps has no fewer bits at a scale, and neither have its levels from each 64 entries on
pub record IsLeast (scale : ℕ) (half_steps : List ℕ) (least : Least) : Type 0 where
  pub bits : least.bits ≤ part_bound scale (length half_steps / 64) half_steps
  pub left : AreLeft (signed_levels (numbers_at scale half_steps)) least.left
  pub few : least.bits ≤ 1240 * (length half_steps / 64)

-- so have the three parts of a slice
pub record AreLeast (scale : ℕ) (y cb cr : List ℕ) (bounds : Bounds) : Type 0 where
  pub y_least : IsLeast scale y bounds.y
  pub cb_least : IsLeast scale cb bounds.cb
  pub cr_least : IsLeast scale cr bounds.cr
