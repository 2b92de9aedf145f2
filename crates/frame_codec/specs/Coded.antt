-- The frame that stands for a picture, and the picture that it gives back (own). docs/formats/frames.md, "Coded frames".
use Rattle.std.specs.Prelude.{◌≡◌, ◌<◌, ℕ, List, [], length, get_or}
use Rattle.rec_bytes.specs.Configuration.{Fields}
use Rattle.picture_plane.specs.Pictures.{Planes, IsPicture}
use Rattle.picture_plane.specs.Sizes.{size_of}
use Rattle.picture_plane.specs.Slices.{picture_count, slice_total, IsSlice, IsFrameSlice}
use Rattle.picture_plane.specs.Blocks.{AreSamples, AreCut, Shows}
use Rattle.picture_plane.specs.declared.slice_names.SliceName.{SliceName}
use Rattle.slice_codec.specs.Setups.{Setup, IsSetup}
use Rattle.slice_codec.specs.Coded.{IsCodedSlice, IsRebuiltSlice}
use Rattle.frame_syntax.specs.Written.{head_of, frame_bytes}

-- the bytes are a slice of a picture
pub record IsCodedCut (fields : Fields) (picture : Planes) (name : SliceName) (bytes : List ℕ) : Type 0 where
  pub samples : List (List ℕ)
  pub whole : AreSamples samples
  pub cut : AreCut picture name samples
  pub coded : IsCodedSlice fields name.count samples bytes

-- the slices of a picture, in the order of the file
pub record AreCodedSlices (fields : Fields) (picture : Planes) (slices : List (List ℕ)) : Type 0 where
  pub counted : length slices ≡ slice_total (size_of fields) fields.log2
  pub each : (index : ℕ) (name : SliceName) → index < length slices → IsFrameSlice (size_of fields) fields.log2 index name
      → IsCodedCut fields picture name (get_or slices index [])

-- the bytes are the frame of a picture: its header with the weights as matrices, and its slices
pub record IsCodedFrame (fields : Fields) (picture : Planes) (bytes : List ℕ) : Type 0 where
  pub setup : Setup
  pub of_configuration : IsSetup fields setup
  pub slices : List (List ℕ)
  pub coded : AreCodedSlices fields picture slices
  pub joined : bytes ≡ frame_bytes (head_of fields setup.luma setup.chroma) fields.log2 slices

-- a slice of the picture that is given back shows what the slice of the source gives back
pub record IsRebuiltCut (fields : Fields) (source rebuilt : Planes) (name : SliceName) : Type 0 where
  pub samples : List (List ℕ)
  pub whole : AreSamples samples
  pub cut : AreCut source name samples
  pub given : List (List ℕ)
  pub rebuilt_are : IsRebuiltSlice fields name.count samples given
  pub shown : Shows rebuilt name given

-- the picture that the frame of a picture gives back: no bits but those by which the indices are chosen
pub record IsRebuilt (fields : Fields) (source rebuilt : Planes) : Type 0 where
  pub size : rebuilt.size ≡ size_of fields
  pub whole : IsPicture rebuilt
  pub slices : (picture n : ℕ) (name : SliceName) → picture < picture_count (size_of fields)
      → IsSlice (size_of fields) fields.log2 picture n name → IsRebuiltCut fields source rebuilt name
