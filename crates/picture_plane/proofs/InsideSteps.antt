-- How a block inside a picture is cut.
use Rattle.std.proofs.Common.{◌≡◌, ℕ, ◌+◌, ◌-◌, ◌*◌, ◌/◌, ◌%◌, ◌<◌, ◌≤◌, length, sym, ap, ap₂, ◌∙◌, arith, get_or}
use Rattle.std.specs.Prelude.{min}
use Rattle.picture_plane.specs.declared.planes.Plane.{Plane}
use Rattle.picture_plane.specs.declared.slice_names.Field.{Field}
use Rattle.picture_plane.specs.declared.slice_names.Field.TheVariants.{Whole, Top, Bottom}
use Rattle.picture_plane.specs.Blocks.{frame_row, repeated_at}
use Rattle.picture_plane.specs.Pictures.{columns, row_start, sample_at, sample_count, IsPicture, Planes}
use Rattle.picture_plane.specs.Slices.{Size, HasField, line_count}
use Rattle.picture_plane.specs.inner.Lines.{lines_step}
use Rattle.picture_plane.specs.laws.PictureLaws.{row_room}
use Rattle.picture_plane.specs.laws.PlaceLaws.{frame_row_below}

-- where the lines of a block stand
pub line_stands : (size : Size) (field : Field) (plane : Plane) (line i : ℕ)
    → row_start size plane (frame_row field (line + i)) ≡ row_start size plane (frame_row field line) + i * (lines_step field * columns size plane)
line_stands size Whole plane line i = omega arith
line_stands size Top plane line i = omega arith
line_stands size Bottom plane line i = omega arith

-- a block inside repeats nothing
pub inside_is : (planes : Planes) (field : Field) (plane : Plane) (line column k : ℕ) → line + 8 ≤ line_count planes.size → column + 8 ≤ columns planes.size plane → k < 64
    → get_or planes.samples (row_start planes.size plane (frame_row field line) + column + k / 8 * (lines_step field * columns planes.size plane) + k % 8) 0
    ≡ repeated_at planes field plane (line + k / 8) (column + k % 8)
inside_is planes field plane line column k lines wide h =
    let size = planes.size in
    let line_is : min (line + k / 8) (line_count size - 1) ≡ line + k / 8 = omega arith in
    let column_is : min (column + k % 8) (columns size plane - 1) ≡ column + k % 8 = omega arith in
    ap (λ (i : ℕ). get_or planes.samples i 0) (omega (arith, line_stands size field plane line (k / 8)))
    ∙ sym (ap₂ (λ (l c : ℕ). sample_at planes plane (frame_row field l) c) line_is column_is)

-- the rows of a block inside end before the picture does
pub rows_room : (size : Size) (field : Field) (plane : Plane) (line column : ℕ) → HasField size.interlace field
    → line + 8 ≤ line_count size → column + 8 ≤ columns size plane
    → row_start size plane (frame_row field line) + column + 7 * (lines_step field * columns size plane) + 8 ≤ sample_count size
rows_room size field plane line column f lines wide =
    let last = frame_row_below size field (line + 7) f (omega arith) in
    omega (arith, line_stands size field plane line 7, row_room size plane (frame_row field (line + 7)) last)

pub inside_room : (planes : Planes) (field : Field) (plane : Plane) (line column : ℕ) → IsPicture planes → HasField planes.size.interlace field
    → line + 8 ≤ line_count planes.size → column + 8 ≤ columns planes.size plane
    → row_start planes.size plane (frame_row field line) + column + 7 * (lines_step field * columns planes.size plane) + 8 ≤ length planes.samples
inside_room planes field plane line column p f lines wide = omega (arith, rows_room planes.size field plane line column f lines wide, p.all)

-- they stand apart
pub rows_step : (size : Size) (field : Field) (plane : Plane) → 8 ≤ columns size plane → 8 ≤ lines_step field * columns size plane
rows_step size Whole plane h = omega arith
rows_step size Top plane h = omega arith
rows_step size Bottom plane h = omega arith
