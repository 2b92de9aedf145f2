-- Frames whose slices are decoded one by one. Private functions alone cite these.
use Rattle.std.specs.Prelude.{◌≡◌, ◌<◌, ◌≤◌, ℕ, List, length, drop}
use Rattle.picture_plane.specs.Pictures.{Planes}
use Rattle.picture_plane.specs.Slices.{picture_count, slices_per_picture}
use Rattle.picture_plane.specs.declared.slice_names.SliceName.{SliceName}
use Rattle.slice_codec.specs.Setups.{Setup}
use Rattle.frame_syntax.specs.Headers.{size_of}
use Rattle.frame_syntax.specs.Frames.{slices_of}
use Rattle.frame_syntax.specs.SlicesLeft.{SlicesLeft}
use Rattle.frame_syntax.specs.declared.frame.FrameParts.{FrameParts}
use Rattle.frame_syntax.specs.declared.picture_head.PictureHead.{PictureHead}
use Rattle.frame_codec.specs.Frames.{setup_of, log2_of, number_of, IsNamed, IsShown}

-- the coded picture of this number, and its slices are there
pub record IsCodedPicture (bytes : List ℕ) (parts : FrameParts) (picture : ℕ) (coded : PictureHead) : Type 0 where
  pub there : picture < picture_count (size_of parts.head)
  pub log2 : coded.log2 ≡ log2_of parts picture
  pub small : coded.log2 ≤ 3
  pub slices : coded.slices ≡ slices_per_picture (size_of parts.head) coded.log2
  pub counted : number_of parts picture coded.slices ≤ length (slices_of bytes parts)

-- the slices numbered below this one mean what the picture shows
pub record AreShown (bytes : List ℕ) (parts : FrameParts) (planes : Planes) (index : ℕ) : Type 0 where
  pub size : planes.size ≡ size_of parts.head
  pub shown : (picture n : ℕ) (name : SliceName) → IsNamed parts picture n name → number_of parts picture n < index
      → IsShown bytes parts planes picture n name

-- the slices from this one on are left, and those before it are shown
pub record IsReached (bytes : List ℕ) (parts : FrameParts) (slices : SlicesLeft) (setup : Setup) (planes : Planes) (index : ℕ) : Type 0 where
  pub bytes_are : slices.bytes ≡ bytes
  pub left : slices.left ≡ drop index (slices_of bytes parts)
  pub setup_is : setup ≡ setup_of parts.head
  pub shown : AreShown bytes parts planes index
