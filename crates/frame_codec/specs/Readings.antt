-- A slice that is read into a picture (own). docs/formats/frames.md, "Coded frames".
use Rattle.std.specs.Prelude.{ℕ, List}
use Rattle.picture_plane.specs.Pictures.{Planes}
use Rattle.picture_plane.specs.Blocks.{IsPlaced}
use Rattle.picture_plane.specs.declared.slice_names.SliceName.{SliceName}
use Rattle.slice_codec.specs.Setups.{Setup}
use Rattle.slice_codec.specs.Slices.{MeansSlice}

-- the bytes of a slice mean samples, and these are put into a picture
pub record IsRead (setup : Setup) (bytes : List ℕ) (name : SliceName) (old new : Planes) : Type 0 where
  pub samples : List (List ℕ)
  pub means : MeansSlice setup name.count bytes samples
  pub placed : IsPlaced old new name samples
