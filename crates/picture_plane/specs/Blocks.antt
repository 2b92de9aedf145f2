-- The blocks of a slice, and their samples in a picture (RDD 36). docs/formats/frames.md, "Slices".
use Rattle.std.specs.Prelude.{◌≡◌, ◌<◌, ℕ, ◌+◌, ◌-◌, ◌*◌, ◌/◌, ◌%◌, min, List, length, take, drop, slice_index, slice_set, get_or, []}
use Rattle.picture_plane.specs.declared.planes.Plane.{Plane}
use Rattle.picture_plane.specs.declared.planes.Plane.TheVariants.{Y, Cb, Cr}
use Rattle.picture_plane.specs.declared.slice_names.Field.{Field}
use Rattle.picture_plane.specs.declared.slice_names.Field.TheVariants.{Whole, Top, Bottom}
use Rattle.picture_plane.specs.declared.slice_names.SliceName.{SliceName}
use Rattle.picture_plane.specs.Pictures.{Planes, columns, sample_at}
use Rattle.picture_plane.specs.Slices.{Size, line_count}

-- the blocks of 8 by 8 that a plane of so many macroblocks has
abbrev pub blocks_of : Plane → ℕ → ℕ
blocks_of Y count = 4 * count
blocks_of Cb count = 2 * count
blocks_of Cr count = 2 * count

-- samples of a row of a macroblock
abbrev pub macroblock_columns : Plane → ℕ
macroblock_columns Y = 16
macroblock_columns Cb = 8
macroblock_columns Cr = 8

-- lines of a macroblock above a block: luma's blocks go top left, top right, bottom left, bottom right, chroma's top, bottom
abbrev pub lines_above : Plane → ℕ → ℕ
lines_above Y block = 8 * (block % 4 / 2)
lines_above Cb block = 8 * (block % 2)
lines_above Cr block = 8 * (block % 2)

-- columns of a slice left of a block
abbrev pub columns_before : Plane → ℕ → ℕ
columns_before Y block = 16 * (block / 4) + 8 * (block % 2)
columns_before Cb block = 8 * (block / 2)
columns_before Cr block = 8 * (block / 2)

-- the line of the coded picture where a place of a block stands
abbrev pub line_of : SliceName → Plane → ℕ → ℕ → ℕ
line_of name plane block place = 16 * name.row + lines_above plane block + place / 8

-- the column of its plane where a place of a block stands
abbrev pub column_of : SliceName → Plane → ℕ → ℕ → ℕ
column_of name plane block place = macroblock_columns plane * name.first + columns_before plane block + place % 8

-- the frame's row that is this line of a coded picture
abbrev pub frame_row : Field → ℕ → ℕ
frame_row Whole line = line
frame_row Top line = 2 * line
frame_row Bottom line = 2 * line + 1

-- the 64 blocks of a slice's samples: 32 of Y, then 16 of Cb, then 16 of Cr
abbrev pub first_block : Plane → ℕ
first_block Y = 0
first_block Cb = 32
first_block Cr = 48

-- a block: its samples row by row
abbrev pub block_of : List (List ℕ) → Plane → ℕ → List ℕ
block_of samples plane block = get_or samples (first_block plane + block) []

-- the blocks of a plane of so many macroblocks
abbrev pub blocks_in : List (List ℕ) → Plane → ℕ → List (List ℕ)
blocks_in samples plane count = take (blocks_of plane count) (drop (first_block plane) samples)

-- the sample at a place of a block
abbrev pub sample_of : List (List ℕ) → Plane → ℕ → ℕ → ℕ
sample_of samples plane block place = slice_index (block_of samples plane block) place

-- 64 blocks of 64 samples of ten bits
pub record AreSamples (samples : List (List ℕ)) : Type 0 where
  pub blocks : length samples ≡ 64
  pub whole : (n : ℕ) → n < 64 → length (get_or samples n []) ≡ 64
  pub small : (n k : ℕ) → slice_index (get_or samples n []) k < 1024

-- a sample of a coded picture; past its last line and column these are repeated
abbrev pub repeated_at : Planes → Field → Plane → ℕ → ℕ → ℕ
repeated_at planes field plane line column =
    sample_at planes plane (frame_row field (min line (line_count planes.size - 1))) (min column (columns planes.size plane - 1))

-- the slice's samples are those of the coded picture
abbrev pub AreCut : Planes → SliceName → List (List ℕ) → Type 0
AreCut planes name samples = (plane : Plane) (block place : ℕ) → block < blocks_of plane name.count → place < 64
    → sample_of samples plane block place
    ≡ repeated_at planes name.field plane (line_of name plane block place) (column_of name plane block place)

-- a place of a block that the picture has
pub record IsInside (size : Size) (name : SliceName) (plane : Plane) (block place : ℕ) : Type 0 where
  pub in_slice : block < blocks_of plane name.count
  pub in_block : place < 64
  pub line : line_of name plane block place < line_count size
  pub column : column_of name plane block place < columns size plane

-- the picture has the slice's samples at their places
abbrev pub Shows : Planes → SliceName → List (List ℕ) → Type 0
Shows planes name samples = (plane : Plane) (block place : ℕ) → IsInside planes.size name plane block place
    → sample_at planes plane (frame_row name.field (line_of name plane block place)) (column_of name plane block place)
    ≡ sample_of samples plane block place

-- the place of a block stands at this row and column of the frame
pub record StandsAt (name : SliceName) (plane : Plane) (block place row column : ℕ) : Type 0 where
  pub in_slice : block < blocks_of plane name.count
  pub in_block : place < 64
  pub on_row : frame_row name.field (line_of name plane block place) ≡ row
  pub on_column : column_of name plane block place ≡ column

-- the slice's samples are put into the picture, and every other sample stays
pub record IsPlaced (old new : Planes) (name : SliceName) (samples : List (List ℕ)) : Type 0 where
  pub size : new.size ≡ old.size
  pub shown : Shows new name samples
  pub others : (plane : Plane) (row column : ℕ) → row < old.size.height → column < columns old.size plane
      → ((block place : ℕ) → StandsAt name plane block place row column → ⊥)
      → sample_at new plane row column ≡ sample_at old plane row column

-- the samples with one block put
abbrev pub with_block : List (List ℕ) → Plane → ℕ → List ℕ → List (List ℕ)
with_block old plane block samples = slice_set old (first_block plane + block) samples
