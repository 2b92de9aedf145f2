-- The memory of an encoder with workers.
use Rattle.std.specs.Prelude.{◌≡◌, ◌≤◌, ℕ, List, length}
use Rattle.rec_bytes.specs.Configuration.{Fields}
use Rattle.frame_syntax.specs.Written.{frame_room_of}
use Rattle.frame_codec.specs.Sources.{slices_of}
use Rattle.slice_workers.specs.declared.hand.Hand.{Hand}
use Rattle.slice_workers.specs.inner.Hands.{AreFor}

-- there are workers for the configuration, and room for the sizes of the slices of a coded picture and for the longest
-- frame, of which so many bytes are a frame
pub record HasRoom (fields : Fields) (hands : List Hand) (sizes buffer : List ℕ) (frame workers : ℕ) : Type 0 where
  pub some : 1 ≤ workers
  pub config : AreFor fields hands
  pub sizes_are : length sizes ≡ slices_of fields
  pub buffer_is : length buffer ≡ frame_room_of fields
  pub within : frame ≤ length buffer
