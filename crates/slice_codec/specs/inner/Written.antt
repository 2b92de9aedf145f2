-- Parts that stand one behind the other, and those that don't fit.
use Rattle.std.specs.Prelude.{◌<◌, ◌+◌, ℕ, List, length, take, drop}
use Rattle.bit_io.specs.Bits.{bytes_for}
use Rattle.slice_parts.specs.Component.{IsPadded}
use Rattle.picture_plane.specs.declared.planes.Plane.TheVariants.{Y, Cb, Cr}
use Rattle.picture_plane.specs.Blocks.{blocks_in}
use Rattle.slice_codec.specs.Setups.{Setup}
use Rattle.slice_codec.specs.Coded.{IsSpelledPart, IsSliceAt, IsChosen, Fits}

-- the bytes begin with the parts of Cb and Cr, of so many bytes each
pub record AreChroma (setup : Setup) (index : ℕ) (cb_blocks cr_blocks : List (List ℕ)) (cb_len cr_len : ℕ) (bytes : List ℕ) : Type 0 where
  pub cb : List ℕ
  pub cr : List ℕ
  pub cb_part : IsSpelledPart setup index Cb cb_blocks cb
  pub cr_part : IsSpelledPart setup index Cr cr_blocks cr
  pub cb_padded : IsPadded cb (take cb_len bytes)
  pub cr_padded : IsPadded cr (take cr_len (drop cb_len bytes))

-- the bytes begin with the parts of Y, Cb and Cr, of so many bytes each
pub record AreParts (setup : Setup) (index count : ℕ) (samples : List (List ℕ)) (y_len cb_len cr_len : ℕ) (bytes : List ℕ) : Type 0 where
  pub y : List ℕ
  pub y_part : IsSpelledPart setup index Y (blocks_in samples Y count) y
  pub y_padded : IsPadded y (take y_len bytes)
  pub chroma : AreChroma setup index (blocks_in samples Cb count) (blocks_in samples Cr count) cb_len cr_len (drop y_len bytes)

-- the parts of Cb and Cr have more bytes than there is room for
abbrev pub ChromaPasses : Setup → ℕ → List (List ℕ) → List (List ℕ) → ℕ → Type 0
ChromaPasses setup index cb_blocks cr_blocks room = (cb cr : List ℕ)
    → IsSpelledPart setup index Cb cb_blocks cb → IsSpelledPart setup index Cr cr_blocks cr
    → room < bytes_for (length cb) + bytes_for (length cr)

-- so do all three
abbrev pub PartsPass : Setup → ℕ → ℕ → List (List ℕ) → ℕ → Type 0
PartsPass setup index count samples room = (y cb cr : List ℕ)
    → IsSpelledPart setup index Y (blocks_in samples Y count) y
    → IsSpelledPart setup index Cb (blocks_in samples Cb count) cb → IsSpelledPart setup index Cr (blocks_in samples Cr count) cr
    → room < bytes_for (length y) + bytes_for (length cb) + bytes_for (length cr)

-- the slice at an index has more bytes than there is room for
abbrev pub SlicePasses : Setup → ℕ → List (List ℕ) → ℕ → ℕ → Type 0
SlicePasses setup count samples index room = (bytes : List ℕ) → IsSliceAt setup count samples index bytes → room < length bytes

-- the bytes are the slice of samples at the least index that fits into the room, or at the last
pub record IsChosenSlice (setup : Setup) (count : ℕ) (samples : List (List ℕ)) (room first last : ℕ) (bytes : List ℕ) : Type 0 where
  pub index : ℕ
  pub chosen : IsChosen (Fits setup count samples room) first last index
  pub coded : IsSliceAt setup count samples index bytes
