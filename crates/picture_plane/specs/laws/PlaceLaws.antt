-- Laws of where samples stand: proved here, for proofs to cite.
use Rattle.std.proofs.Common.{◌≡◌, ◌≢◌, ℕ, ◌+◌, ◌*◌, ◌/◌, ◌<◌, refl, arith}
use Rattle.std.proofs.lemmas.Bool.{ne_eqb}
use Rattle.std.proofs.lemmas.Nat.{mul-le, mul-add-lt, same_from_place}
use Rattle.picture_plane.specs.declared.planes.Plane.{Plane}
use Rattle.picture_plane.specs.declared.planes.Plane.TheVariants.{Y, Cb, Cr}
use Rattle.picture_plane.specs.declared.slice_names.Field.{Field}
use Rattle.picture_plane.specs.declared.slice_names.Field.TheVariants.{Whole, Top, Bottom}
use Rattle.picture_plane.specs.declared.slice_names.SliceName.{SliceName}
use Rattle.picture_plane.specs.Blocks.{column_of, frame_row, line_of}
use Rattle.picture_plane.specs.Pictures.{columns, plane_len, plane_start, row_start}
use Rattle.picture_plane.specs.Slices.{Size, HasField, line_count}

-- a sample of a plane stands within the plane
pub in_plane : (size : Size) (plane : Plane) (row column : ℕ) → row < size.height → column < columns size plane → row * columns size plane + column < plane_len size plane
in_plane size plane row column r c = omega (arith, mul-add-lt row (columns size plane) column size.height r c)

-- two samples that stand at one place are one
pub record IsSamePlace (p q : Plane) (r s c d : ℕ) : Type 0 where
  pub planes : p ≡ q
  pub rows : r ≡ s
  pub columns : c ≡ d

same_in_plane : (plane : Plane) (start wide r s c d : ℕ) → c < wide → d < wide → start + r * wide + c ≡ start + s * wide + d → IsSamePlace plane plane r s c d
same_in_plane plane start wide r s c d hc hd e =
    let same = same_from_place r c s d wide hc hd (omega arith) in
    record { planes = refl; rows = same.0; columns = same.1 }

pub same_place : (size : Size) (p q : Plane) (r s c d : ℕ) → r < size.height → s < size.height → c < columns size p → d < columns size q
    → row_start size p r + c ≡ row_start size q s + d → IsSamePlace p q r s c d
same_place size Y Y r s c d hr hs hc hd e = same_in_plane Y 0 size.width r s c d hc hd e
same_place size Cb Cb r s c d hr hs hc hd e = same_in_plane Cb (plane_start size Cb) (size.width / 2) r s c d hc hd e
same_place size Cr Cr r s c d hr hs hc hd e = same_in_plane Cr (plane_start size Cr) (size.width / 2) r s c d hc hd e
same_place size Y Cb r s c d hr hs hc hd e = absurd (omega (arith, in_plane size Y r c hr hc))
same_place size Y Cr r s c d hr hs hc hd e = absurd (omega (arith, in_plane size Y r c hr hc))
same_place size Cb Y r s c d hr hs hc hd e = absurd (omega (arith, in_plane size Y s d hs hd))
same_place size Cr Y r s c d hr hs hc hd e = absurd (omega (arith, in_plane size Y s d hs hd))
same_place size Cb Cr r s c d hr hs hc hd e = absurd (omega (arith, in_plane size Cb r c hr hc))
same_place size Cr Cb r s c d hr hs hc hd e = absurd (omega (arith, in_plane size Cb s d hs hd))

-- samples of two rows of a plane stand apart
pub rows_apart : (size : Size) (plane : Plane) (r s c d : ℕ) → r < s → c < columns size plane → row_start size plane r + c ≢ row_start size plane s + d
rows_apart size plane r s c d h hc e =
    let next = mul-le (r + 1) (columns size plane) s (columns size plane) (omega arith) (omega arith) in
    omega (arith, next)

-- a later line is a later row
pub frame_row_rises : (field : Field) (l m : ℕ) → l < m → frame_row field l < frame_row field m
frame_row_rises Whole l m h = h
frame_row_rises Top l m h = omega arith
frame_row_rises Bottom l m h = omega arith

pub frame_row_one : (field : Field) (l m : ℕ) → frame_row field l ≡ frame_row field m → l ≡ m
frame_row_one Whole l m e = e
frame_row_one Top l m e = omega arith
frame_row_one Bottom l m e = omega arith

-- the lines of a field are half of the rows
pub field_lines : (size : Size) → size.interlace ≢ 0 → line_count size ≡ size.height / 2
field_lines size h = rw (ne_eqb size.interlace 0 h) refl

pub whole_lines : (size : Size) → size.interlace ≡ 0 → line_count size ≡ size.height
whole_lines size h = rw h (omega arith)

-- each line of a coded picture is a row of the frame
pub frame_row_below : (size : Size) (field : Field) (line : ℕ) → HasField size.interlace field → line < line_count size → frame_row field line < size.height
frame_row_below size Whole line f h = omega (arith, whole_lines size f)
frame_row_below size Top line f h = omega (arith, field_lines size f)
frame_row_below size Bottom line f h = omega (arith, field_lines size f)

-- two places of blocks of a slice that stand at one line and one column are one
pub one_block_place : (name : SliceName) (plane : Plane) (a b k m : ℕ) → k < 64 → m < 64
    → line_of name plane a k ≡ line_of name plane b m → column_of name plane a k ≡ column_of name plane b m → (a ≡ b) × (k ≡ m)
one_block_place name Y a b k m hk hm lines columns = (omega arith, omega arith)
one_block_place name Cb a b k m hk hm lines columns = (omega arith, omega arith)
one_block_place name Cr a b k m hk hm lines columns = (omega arith, omega arith)
