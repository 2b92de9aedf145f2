-- Samples of blocks that are put into a picture's samples.
use Rattle.std.specs.Prelude.{◌≡◌, ◌≢◌, ◌<◌, ℕ, ◌+◌, ◌*◌, ◌/◌, ◌%◌, List, slice_index}
use Rattle.picture_plane.specs.declared.planes.Plane.{Plane}
use Rattle.picture_plane.specs.declared.slice_names.Field.{Field}
use Rattle.picture_plane.specs.declared.slice_names.SliceName.{SliceName}
use Rattle.picture_plane.specs.Blocks.{column_of, frame_row, line_of, sample_of}
use Rattle.picture_plane.specs.Pictures.{columns, row_start}
use Rattle.picture_plane.specs.Slices.{Size, line_count}

-- the place among all samples of a line and a column of a coded picture
abbrev pub place_of : Size → Field → Plane → ℕ → ℕ → ℕ
place_of size field plane line column = row_start size plane (frame_row field line) + column

-- so many columns of a row that begins here have the samples of a row of a block from a column on
pub record IsRowPlaced (start wide column : ℕ) (block : List ℕ) (r : ℕ) (old new : List ℕ) : Type 0 where
  pub shown : (x : ℕ) → x < 8 → column + x < wide → slice_index new (start + (column + x)) ≡ slice_index block (8 * r + x)
  pub others : (j : ℕ) → ((x : ℕ) → x < 8 → column + x < wide → j ≢ start + (column + x)) → slice_index new j ≡ slice_index old j
  pub small : (j : ℕ) → slice_index new j < 1024

-- so many rows of a block are put, the first one from a place on, each further one so many samples behind
pub record AreRowsPlaced (rows start step : ℕ) (block old new : List ℕ) : Type 0 where
  pub shown : (k : ℕ) → k < 8 * rows → slice_index new (start + k / 8 * step + k % 8) ≡ slice_index block k
  pub others : (j : ℕ) → ((k : ℕ) → k < 8 * rows → j ≢ start + k / 8 * step + k % 8) → slice_index new j ≡ slice_index old j
  pub small : (j : ℕ) → slice_index new j < 1024

-- so many places of a block, whose first one stands at a line and a column, are put
pub record IsBlockPlaced (places : ℕ) (size : Size) (field : Field) (plane : Plane) (line column : ℕ) (block old new : List ℕ) : Type 0 where
  pub shown : (k : ℕ) → k < places → line + k / 8 < line_count size → column + k % 8 < columns size plane
      → slice_index new (place_of size field plane (line + k / 8) (column + k % 8)) ≡ slice_index block k
  pub others : (j : ℕ)
      → ((k : ℕ) → k < places → line + k / 8 < line_count size → column + k % 8 < columns size plane → j ≢ place_of size field plane (line + k / 8) (column + k % 8))
      → slice_index new j ≡ slice_index old j
  pub small : (j : ℕ) → slice_index new j < 1024

-- so many blocks of a plane are put
pub record AreBlocksPlaced (blocks : ℕ) (size : Size) (name : SliceName) (plane : Plane) (samples : List (List ℕ)) (old new : List ℕ) : Type 0 where
  pub shown : (b k : ℕ) → b < blocks → k < 64 → line_of name plane b k < line_count size → column_of name plane b k < columns size plane
      → slice_index new (place_of size name.field plane (line_of name plane b k) (column_of name plane b k)) ≡ sample_of samples plane b k
  pub others : (j : ℕ)
      → ((b k : ℕ) → b < blocks → k < 64 → line_of name plane b k < line_count size → column_of name plane b k < columns size plane
      → j ≢ place_of size name.field plane (line_of name plane b k) (column_of name plane b k))
      → slice_index new j ≡ slice_index old j
  pub small : (j : ℕ) → slice_index new j < 1024
