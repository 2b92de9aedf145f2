-- Why bytes are no slice: the first rule that they break (RDD 36, order our own). docs/formats/frames.md, "Slices".
use Rattle.std.specs.Prelude.{◌≡◌, ◌<◌, ◌≤◌, ◌+◌, ◌⊎◌, ℕ, ℤ, List, length}
use Rattle.bit_io.specs.Bits.{bits_of}
use Rattle.prores_scan.specs.WeightsAndScales.{scale_of}
use Rattle.prores_scan.specs.declared.products.CoefficientRange.{CoefficientRange as ProductFault}
use Rattle.slice_parts.specs.Component.{IsComponent}
use Rattle.slice_parts.specs.Faults.{Breaks}
use Rattle.slice_parts.specs.declared.fault.PartFault.{PartFault}
use Rattle.slice_parts.specs.declared.fault.PartFault.TheVariants as part_fault
use Rattle.slice_levels.specs.Products.{InRange, IsFirstAbove}
use Rattle.picture_plane.specs.declared.planes.Plane.{Plane}
use Rattle.picture_plane.specs.declared.planes.Plane.TheVariants.{Y, Cb, Cr}
use Rattle.picture_plane.specs.Blocks.{blocks_of}
use Rattle.slice_codec.specs.Setups.{Setup, weights_of}
use Rattle.slice_codec.specs.Slices.{HasSize, HasHead, head_size, index_of, y_len, cb_len, part_bytes}
use Rattle.slice_codec.specs.declared.fault.SliceFault.{SliceFault}
use Rattle.slice_codec.specs.declared.fault.SliceFault.TheVariants.{SliceShort, SliceHeader, Index, Parts, BitsEnd, TooLong, RunPast, CoefficientRange}

-- a part's bits are levels whose products are in range
pub record IsSoundPart (setup : Setup) (count : ℕ) (bytes : List ℕ) (plane : Plane) : Type 0 where
  pub levels : List ℤ
  pub coded : IsComponent (blocks_of plane count) (bits_of (part_bytes bytes plane)) levels
  pub in_range : InRange setup.scan (weights_of setup plane) (scale_of (index_of bytes)) (blocks_of plane count) levels

-- a part's place in the slice
abbrev pub number_of : Plane → ℕ
number_of Y = 0
number_of Cb = 1
number_of Cr = 2

-- the header holds, and so do the parts before this one
pub record Reaches (setup : Setup) (count : ℕ) (bytes : List ℕ) (plane : Plane) : Type 0 where
  pub head : HasHead bytes
  pub before : (other : Plane) → number_of other < number_of plane → IsSoundPart setup count bytes other

-- a part's bits are levels, and the fault names the first product out of range
pub record IsOutOfRange (setup : Setup) (count : ℕ) (bytes : List ℕ) (plane : Plane) (fault : ProductFault) : Type 0 where
  pub levels : List ℤ
  pub coded : IsComponent (blocks_of plane count) (bits_of (part_bytes bytes plane)) levels
  pub first : IsFirstAbove setup.scan (weights_of setup plane) (scale_of (index_of bytes)) (blocks_of plane count) levels fault

-- the part of a plane is the first that breaks, with this fault
pub record BreaksFirst (setup : Setup) (count : ℕ) (bytes : List ℕ) (part : ℕ) (fault : PartFault) : Type 0 where
  pub plane : Plane
  pub numbered : part ≡ number_of plane
  pub reached : Reaches setup count bytes plane
  pub breaks : Breaks (blocks_of plane count) (bits_of (part_bytes bytes plane)) fault

-- the part of a plane is the first that is no sound part, and the fault names its first product out of range
pub record PassesRange (setup : Setup) (count : ℕ) (bytes : List ℕ) (fault : ProductFault) : Type 0 where
  pub plane : Plane
  pub reached : Reaches setup count bytes plane
  pub first : IsOutOfRange setup count bytes plane fault

-- the fault names the first rule that is broken, in the order of these cases; parts go Y, Cb, Cr
abbrev pub Refuses : Setup → ℕ → List ℕ → SliceFault → Type 0
Refuses setup count bytes (SliceShort at) = (at ≡ length bytes) × (length bytes < 6)
Refuses setup count bytes (SliceHeader at) = (at ≡ 0) × (6 ≤ length bytes) × ((head_size bytes < 6) ⊎ (length bytes < head_size bytes))
Refuses setup count bytes (Index at) = (at ≡ 1) × HasSize bytes × ((index_of bytes ≡ 0) ⊎ (224 < index_of bytes))
Refuses setup count bytes (Parts at) =
    (at ≡ 2) × HasSize bytes × (1 ≤ index_of bytes) × (index_of bytes ≤ 224)
    × (length bytes < head_size bytes + y_len bytes + cb_len bytes)
Refuses setup count bytes (BitsEnd part at) = BreaksFirst setup count bytes part (part_fault.BitsEnd at)
Refuses setup count bytes (TooLong part at) = BreaksFirst setup count bytes part (part_fault.TooLong at)
Refuses setup count bytes (RunPast part at) = BreaksFirst setup count bytes part (part_fault.RunPast at)
Refuses setup count bytes (CoefficientRange block place) = PassesRange setup count bytes (record { block = block; place = place })
