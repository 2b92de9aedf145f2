-- A picture: three planes of samples, 4:2:2 (RDD 36). docs/formats/feed.md, "Feeds".
use Rattle.std.specs.Prelude.{◌≡◌, ◌<◌, ℕ, ◌+◌, ◌*◌, ◌/◌, List, length, take, drop, replicate, slice_index, slice_set}
use Rattle.rec_bytes.specs.Places.{with_bytes}
use Rattle.picture_plane.specs.declared.planes.Plane.{Plane}
use Rattle.picture_plane.specs.declared.planes.Plane.TheVariants.{Y, Cb, Cr}
use Rattle.picture_plane.specs.Sizes.{IsSize}
use Rattle.picture_plane.specs.Slices.{Size}

-- a picture's size and its samples: Y, then Cb, then Cr, each row by row
pub record Planes : Type 0 where
  pub size : Size
  pub samples : List ℕ

-- samples of a row of a plane: chroma has half of luma's
abbrev pub columns : Size → Plane → ℕ
columns size Y = size.width
columns size Cb = size.width / 2
columns size Cr = size.width / 2

-- samples of a plane
abbrev pub plane_len : Size → Plane → ℕ
plane_len size plane = size.height * columns size plane

-- samples before a plane
abbrev pub plane_start : Size → Plane → ℕ
plane_start size Y = 0
plane_start size Cb = plane_len size Y
plane_start size Cr = plane_len size Y + plane_len size Cb

-- samples of a picture
abbrev pub sample_count : Size → ℕ
sample_count size = plane_len size Y + plane_len size Cb + plane_len size Cr

-- the place of a row's first sample among all samples
abbrev pub row_start : Size → Plane → ℕ → ℕ
row_start size plane row = plane_start size plane + row * columns size plane

-- the sample of a plane at a row and a column
abbrev pub sample_at : Planes → Plane → ℕ → ℕ → ℕ
sample_at planes plane row column = slice_index planes.samples (row_start planes.size plane row + column)

-- the samples of a row of a plane
abbrev pub row_of : Planes → Plane → ℕ → List ℕ
row_of planes plane row = take (columns planes.size plane) (drop (row_start planes.size plane row) planes.samples)

-- all samples are there, each of ten bits
pub record IsPicture (planes : Planes) : Type 0 where
  pub size : IsSize planes.size
  pub all : length planes.samples ≡ sample_count planes.size
  pub small : (k : ℕ) → slice_index planes.samples k < 1024

-- a picture of this size whose samples are all 0
abbrev pub zeros : Size → Planes
zeros size = record { size = size; samples = replicate (sample_count size) 0 }

-- the picture with a run of samples put at a place, every other one as it was
abbrev pub with_samples : Planes → ℕ → List ℕ → Planes
with_samples old at samples =
    record { size = old.size; samples = with_bytes old.samples at samples }

-- the picture with one sample put
abbrev pub with_sample : Planes → Plane → ℕ → ℕ → ℕ → Planes
with_sample old plane row column value =
    record { size = old.size; samples = slice_set old.samples (row_start old.size plane row + column) value }
