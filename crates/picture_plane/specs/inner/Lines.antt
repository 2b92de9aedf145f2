-- Rows of blocks.
use Rattle.std.specs.Prelude.{◌≡◌, ◌<◌, ℕ, ◌+◌, ◌-◌, ◌*◌, min, List, length, slice_index}
use Rattle.picture_plane.specs.declared.slice_names.Field.{Field}
use Rattle.picture_plane.specs.declared.slice_names.Field.TheVariants.{Whole, Top, Bottom}

-- a row of a block has the samples of a line from a column on, whose last one is repeated
abbrev pub IsRow : List ℕ → ℕ → List ℕ → ℕ → Type 0
IsRow block r line column =
    (x : ℕ) → x < 8 → slice_index block (8 * r + x) ≡ slice_index line (min (column + x) (length line - 1))

-- rows of the frame from a line of a coded picture to the next
abbrev pub lines_step : Field → ℕ
lines_step Whole = 1
lines_step Top = 2
lines_step Bottom = 2
