-- The picture that a frame means (RDD 36). docs/formats/frames.md, "Coded frames".
use Rattle.std.specs.Prelude.{◌≡◌, ◌<◌, ◌+◌, ℕ, zero, suc, List, Option, Some, None, get_or}
use Rattle.picture_plane.specs.Pictures.{Planes, IsPicture}
use Rattle.picture_plane.specs.Slices.{picture_count, IsSlice}
use Rattle.picture_plane.specs.Blocks.{Shows}
use Rattle.picture_plane.specs.declared.slice_names.SliceName.{SliceName}
use Rattle.slice_codec.specs.Setups.{Setup, scan_of}
use Rattle.slice_codec.specs.Slices.{MeansSlice}
use Rattle.frame_syntax.specs.Headers.{size_of}
use Rattle.frame_syntax.specs.Frames.{IsFrame, slices_of}
use Rattle.frame_syntax.specs.Written.{slice_bytes}
use Rattle.frame_syntax.specs.declared.frame.FrameParts.{FrameParts}
use Rattle.frame_syntax.specs.declared.frame_head.FrameHead.{FrameHead}
use Rattle.frame_syntax.specs.declared.picture_head.PictureHead.{PictureHead}

-- what a frame says of its slices
abbrev pub setup_of : FrameHead → Setup
setup_of head = record { scan = scan_of head.interlace; luma = head.luma; chroma = head.chroma }

-- the log2 of the slice size of a second coded picture, if there is one
abbrev pub log2_in : Option PictureHead → ℕ
log2_in None = 0
log2_in (Some picture) = picture.log2

-- the log2 of the slice size of a coded picture
abbrev pub log2_of : FrameParts → ℕ → ℕ
log2_of parts zero = parts.first.log2
log2_of parts (suc picture) = log2_in parts.second

-- the number in its frame of the n-th slice of a coded picture
abbrev pub number_of : FrameParts → ℕ → ℕ → ℕ
number_of parts zero n = n
number_of parts (suc picture) n = parts.first.slices + n

-- the bytes of the slice of this number
abbrev pub slice_at : List ℕ → FrameParts → ℕ → List ℕ
slice_at bytes parts index = slice_bytes bytes (get_or (slices_of bytes parts) index (0, 0))

-- the n-th slice of a coded picture, by its name
pub record IsNamed (parts : FrameParts) (picture n : ℕ) (name : SliceName) : Type 0 where
  pub there : picture < picture_count (size_of parts.head)
  pub named : IsSlice (size_of parts.head) (log2_of parts picture) picture n name

-- a slice means samples
pub record HasMeaning (bytes : List ℕ) (parts : FrameParts) (picture n : ℕ) (name : SliceName) : Type 0 where
  pub samples : List (List ℕ)
  pub means : MeansSlice (setup_of parts.head) name.count (slice_at bytes parts (number_of parts picture n)) samples

-- a slice means samples that a picture shows at its place
pub record IsShown (bytes : List ℕ) (parts : FrameParts) (planes : Planes) (picture n : ℕ) (name : SliceName) : Type 0 where
  pub meaning : HasMeaning bytes parts picture n name
  pub shown : Shows planes name meaning.samples

-- the bytes are a frame that loads both matrices or none
pub record IsWhole (bytes : List ℕ) (parts : FrameParts) : Type 0 where
  pub frame : IsFrame bytes parts
  pub matrices : parts.head.load_luma ≡ parts.head.load_chroma

-- the bytes are a frame that loads both matrices or none, and its slices mean what the picture shows
pub record MeansFrame (bytes : List ℕ) (planes : Planes) : Type 0 where
  pub parts : FrameParts
  pub frame : IsFrame bytes parts
  pub matrices : parts.head.load_luma ≡ parts.head.load_chroma
  pub size : planes.size ≡ size_of parts.head
  pub whole : IsPicture planes
  pub slices : (picture n : ℕ) (name : SliceName) → IsNamed parts picture n name → IsShown bytes parts planes picture n name
