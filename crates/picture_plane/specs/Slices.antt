-- How the coded pictures of a frame are cut into slices (RDD 36). docs/formats/frames.md, "Slices".
use Rattle.std.specs.Prelude.{◌≡◌, ◌≢◌, ◌<◌, ◌≤◌, ℕ, zero, suc, ◌+◌, ◌*◌, ◌/◌, ◌%◌, ◌^◌, ◌==◌, nat_lt, if◌then◌else◌, List, ◌++◌, length, replicate, sum, take, get_or}
use Rattle.std.specs.Prelude.{Option, Some, None}
use Rattle.picture_plane.specs.declared.slice_names.Field.{Field}
use Rattle.picture_plane.specs.declared.slice_names.Field.TheVariants.{Whole, Top, Bottom}
use Rattle.picture_plane.specs.declared.slice_names.SliceName.{SliceName}

-- a frame's size in samples of luma, and its interlace mode: 0 progressive, 1 top field first, 2 bottom field first
pub record Size : Type 0 where
  pub width : ℕ
  pub height : ℕ
  pub interlace : ℕ

-- macroblocks that cover so many samples of luma
abbrev pub macroblocks : ℕ → ℕ
macroblocks samples = (samples + 15) / 16

-- coded pictures of a frame: itself, or its two fields
abbrev pub picture_count : Size → ℕ
picture_count size = if size.interlace == 0 then 1 else 2

-- rows of samples of a coded picture
abbrev pub line_count : Size → ℕ
line_count size = size.height / picture_count size

-- rows of macroblocks of a coded picture
abbrev pub row_count : Size → ℕ
row_count size = macroblocks (line_count size)

-- the slices of a row in macroblocks, from the left: as many of 2 ^ log2 as fit, then of half that, and so on down to 1
unfoldable pub slice_widths : ℕ → ℕ → List ℕ
slice_widths zero macroblocks = replicate macroblocks 1
slice_widths (suc log2) macroblocks =
    replicate (macroblocks / 2 ^ suc log2) (2 ^ suc log2) ++ slice_widths log2 (macroblocks % 2 ^ suc log2)

-- the slices of a row of a frame of this size
abbrev pub row_widths : Size → ℕ → List ℕ
row_widths size log2 = slice_widths log2 (macroblocks size.width)

-- slices of a coded picture
abbrev pub slices_per_picture : Size → ℕ → ℕ
slices_per_picture size log2 = row_count size * length (row_widths size log2)

-- the field that a frame's coded picture of this number is
abbrev pub field_of : ℕ → ℕ → Field
field_of interlace picture =
    if interlace == 0 then Whole
    else if interlace == 1 then (if picture == 0 then Top else Bottom)
    else (if picture == 0 then Bottom else Top)

-- the n-th slice of a coded picture: row by row, each from the left
pub record IsSlice (size : Size) (log2 picture n : ℕ) (name : SliceName) : Type 0 where
  pub within : n < slices_per_picture size log2
  pub field : name.field ≡ field_of size.interlace picture
  pub row : name.row ≡ n / length (row_widths size log2)
  pub first : name.first ≡ sum (take (n % length (row_widths size log2)) (row_widths size log2))
  pub count : name.count ≡ get_or (row_widths size log2) (n % length (row_widths size log2)) 0

-- the n-th slice of a row with these widths, as its first macroblock and its width; none past the last
abbrev pub slice_at : List ℕ → ℕ → Option (ℕ × ℕ)
slice_at widths n = if nat_lt n (length widths) then Some (sum (take n widths), get_or widths n 0) else None

-- slices of a frame
abbrev pub slice_total : Size → ℕ → ℕ
slice_total size log2 = picture_count size * slices_per_picture size log2

-- the slice of this number of a frame whose pictures are cut alike: picture by picture
abbrev pub IsFrameSlice : Size → ℕ → ℕ → SliceName → Type 0
IsFrameSlice size log2 index name =
    IsSlice size log2 (index / slices_per_picture size log2) (index % slices_per_picture size log2) name

-- a frame of this interlace mode has such a field
abbrev pub HasField : ℕ → Field → Type 0
HasField interlace Whole = interlace ≡ 0
HasField interlace Top = interlace ≢ 0
HasField interlace Bottom = interlace ≢ 0

-- a frame of this size has the macroblocks that the name names
pub record FitsSize (size : Size) (name : SliceName) : Type 0 where
  pub field : HasField size.interlace name.field
  pub row : name.row < row_count size
  pub some : 1 ≤ name.count
  pub most : name.count ≤ 8
  pub within : name.first + name.count ≤ macroblocks size.width
