-- Coded pictures of which some slices are written, and their room.
use Rattle.std.specs.Prelude.{◌≡◌, ◌<◌, ℕ, ◌+◌, ◌*◌, ◌/◌, ◌%◌, List, [], ◌++◌, length, take, sum, get_or}
use Rattle.rec_bytes.specs.Configuration.{Fields}
use Rattle.picture_plane.specs.Pictures.{Planes}
use Rattle.picture_plane.specs.Sizes.{size_of}
use Rattle.picture_plane.specs.Slices.{macroblocks}
use Rattle.picture_plane.specs.declared.slice_names.SliceName.{SliceName}
use Rattle.frame_syntax.specs.Written.{joined, lengths, picture_bytes, pictures_bytes, picture_room}
use Rattle.frame_syntax.specs.declared.front.TheConstants.{SLICE_ROOM, MACROBLOCK_ROOM}
use Rattle.frame_codec.specs.Coded.{IsCodedCut, AreCodedSlices}
use Rattle.frame_codec.specs.Sources.{widths_of, slices_of, IsNamed}

-- macroblocks of the slices before the n-th of a coded picture
abbrev pub width_before : Fields → ℕ → ℕ
width_before fields n =
    n / length (widths_of fields) * macroblocks fields.width + sum (take (n % length (widths_of fields)) (widths_of fields))

-- the most bytes of these slices
abbrev pub slices_room : Fields → ℕ → ℕ
slices_room fields n = SLICE_ROOM * n + MACROBLOCK_ROOM * width_before fields n

-- the most bytes of a coded picture
abbrev pub room_of : Fields → ℕ
room_of fields = picture_room (size_of fields) fields.log2

-- the first slices of a coded picture
pub record AreFirstSlices (fields : Fields) (picture : Planes) (number count : ℕ) (slices : List (List ℕ)) : Type 0 where
  pub counted : length slices ≡ count
  pub each : (n : ℕ) (name : SliceName) → n < count → IsNamed fields number n name → IsCodedCut fields picture name (get_or slices n [])

-- the first slices of a coded picture stand from a place to another, and these are their sizes
pub record AreSlicesPut (fields : Fields) (picture : Planes) (number count start end : ℕ) (sizes old new : List ℕ) : Type 0 where
  pub slices : List (List ℕ)
  pub coded : AreFirstSlices fields picture number count slices
  pub listed : take count sizes ≡ lengths slices
  pub put : take end new ≡ take start old ++ joined slices

-- a coded picture stands from a place to another
pub record IsPicturePut (fields : Fields) (picture : Planes) (number start end : ℕ) (old new : List ℕ) : Type 0 where
  pub slices : List (List ℕ)
  pub coded : AreFirstSlices fields picture number (slices_of fields) slices
  pub put : take end new ≡ take start old ++ picture_bytes fields.log2 slices

-- the coded pictures of a frame stand from a place to another
pub record ArePicturesPut (fields : Fields) (picture : Planes) (start end : ℕ) (old new : List ℕ) : Type 0 where
  pub slices : List (List ℕ)
  pub coded : AreCodedSlices fields picture slices
  pub put : take end new ≡ take start old ++ pictures_bytes (size_of fields) fields.log2 slices
