-- The memory of an encoder.
use Rattle.std.specs.Prelude.{◌≡◌, ◌≤◌, ◌^◌, ℕ}
use Rattle.rec_bytes.specs.Configuration.{Fields}
use Rattle.picture_plane.specs.Sizes.{size_of}
use Rattle.picture_plane.specs.Slices.{slices_per_picture}
use Rattle.frame_syntax.specs.Written.{frame_room_of}

-- there is room for the sizes of the slices of a coded picture and for the longest frame, of which so many bytes are a frame
pub record HasRoom (fields : Fields) (sizes buffer frame : ℕ) : Type 0 where
  pub sizes_are : sizes ≡ slices_per_picture (size_of fields) fields.log2
  pub buffer_is : buffer ≡ frame_room_of fields
  pub within : frame ≤ buffer
  pub most : buffer ≤ 2 ^ 28
