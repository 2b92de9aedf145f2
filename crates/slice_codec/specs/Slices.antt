-- A slice's bytes, and what they mean (RDD 36). docs/formats/frames.md, "Slices".
use Rattle.std.specs.Prelude.{◌≡◌, ◌≤◌, ◌+◌, ◌*◌, ◌/◌, ◌%◌, ℕ, ℤ, List, ◌∷◌, ◌++◌, length, take, drop, slice_index}
use Rattle.bit_io.specs.Bits.{bits_of}
use Rattle.prores_scan.specs.WeightsAndScales.{scale_of}
use Rattle.slice_parts.specs.Component.{IsComponent, IsPadded}
use Rattle.slice_levels.specs.Products.{InRange}
use Rattle.slice_levels.specs.Rebuilt.{AreRebuilt}
use Rattle.picture_plane.specs.declared.planes.Plane.{Plane}
use Rattle.picture_plane.specs.declared.planes.Plane.TheVariants.{Y, Cb, Cr}
use Rattle.picture_plane.specs.Blocks.{blocks_in, blocks_of}
use Rattle.slice_codec.specs.Setups.{Setup, weights_of}

-- bytes of the slice's header, in the five high bits of its first byte
abbrev pub head_size : List ℕ → ℕ
head_size bytes = slice_index bytes 0 / 8

-- the quantiser index
abbrev pub index_of : List ℕ → ℕ
index_of bytes = slice_index bytes 1

-- bytes of the part of Y
abbrev pub y_len : List ℕ → ℕ
y_len bytes = 256 * slice_index bytes 2 + slice_index bytes 3

-- bytes of the part of Cb
abbrev pub cb_len : List ℕ → ℕ
cb_len bytes = 256 * slice_index bytes 4 + slice_index bytes 5

-- Y, Cb and Cr behind the header; Cr has the rest
abbrev pub part_bytes : List ℕ → Plane → List ℕ
part_bytes bytes Y = take (y_len bytes) (drop (head_size bytes) bytes)
part_bytes bytes Cb = take (cb_len bytes) (drop (head_size bytes + y_len bytes) bytes)
part_bytes bytes Cr = drop (head_size bytes + y_len bytes + cb_len bytes) bytes

-- the header's bytes are there
pub record HasSize (bytes : List ℕ) : Type 0 where
  pub long : 6 ≤ length bytes
  pub size : 6 ≤ head_size bytes
  pub within : head_size bytes ≤ length bytes

-- the header has an index, and its parts lie in the slice
pub record HasHead (bytes : List ℕ) : Type 0 where
  pub sized : HasSize bytes
  pub some : 1 ≤ index_of bytes
  pub most : index_of bytes ≤ 224
  pub parts : head_size bytes + y_len bytes + cb_len bytes ≤ length bytes

-- the bytes of a part are the levels of blocks at an index, whose products are in range and give these samples
pub record MeansPart (setup : Setup) (index : ℕ) (plane : Plane) (bytes : List ℕ) (blocks : List (List ℕ)) : Type 0 where
  pub levels : List ℤ
  pub coded : IsComponent (length blocks) (bits_of bytes) levels
  pub in_range : InRange setup.scan (weights_of setup plane) (scale_of index) (length blocks) levels
  pub rebuilt : AreRebuilt setup.scan (weights_of setup plane) (scale_of index) levels blocks

-- the bytes are a slice of so many macroblocks with these samples
pub record MeansSlice (setup : Setup) (count : ℕ) (bytes : List ℕ) (samples : List (List ℕ)) : Type 0 where
  pub head : HasHead bytes
  pub counted : (plane : Plane) → length (blocks_in samples plane count) ≡ blocks_of plane count
  pub parts : (plane : Plane) → MeansPart setup (index_of bytes) plane (part_bytes bytes plane) (blocks_in samples plane count)

-- three spelled parts, each in whole bytes, behind a header of six bytes
pub record IsSliceOf (index : ℕ) (y cb cr bytes : List ℕ) : Type 0 where
  pub y_bytes : List ℕ
  pub cb_bytes : List ℕ
  pub cr_bytes : List ℕ
  pub y_padded : IsPadded y y_bytes
  pub cb_padded : IsPadded cb cb_bytes
  pub cr_padded : IsPadded cr cr_bytes
  pub joined : bytes
      ≡ 48 ∷ index ∷ length y_bytes / 256 ∷ length y_bytes % 256 ∷ length cb_bytes / 256 ∷ length cb_bytes % 256 ∷ y_bytes ++ cb_bytes ++ cr_bytes
