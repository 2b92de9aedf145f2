-- Laws of where each sample of a frame stands: proved here, for proofs to cite.
use Rattle.std.proofs.Common.{◌≡◌, ◌≢◌, ℕ, if◌then◌else◌, Bool, true, false, ◌+◌, ◌-◌, ◌*◌, ◌/◌, ◌%◌, ◌<◌, refl, sym, ap, ◌∙◌, arith, inl, inr, subst, ap₂}
use Rattle.std.proofs.lemmas.Bool.{cases_eq, ne_eqb}
use Rattle.picture_plane.specs.declared.planes.Plane.{Plane}
use Rattle.picture_plane.specs.declared.planes.Plane.TheVariants.{Y, Cb, Cr}
use Rattle.picture_plane.specs.declared.slice_names.Field.{Field}
use Rattle.picture_plane.specs.declared.slice_names.Field.TheVariants.{Whole, Top, Bottom}
use Rattle.picture_plane.specs.declared.slice_names.SliceName.{SliceName}
use Rattle.picture_plane.specs.Blocks.{blocks_of, column_of, frame_row, line_of, macroblock_columns}
use Rattle.picture_plane.specs.Covering.{HasMacroblock, IsSpot, Spot}
use Rattle.picture_plane.specs.Pictures.{columns}
use Rattle.picture_plane.specs.Sizes.{IsSize}
use Rattle.picture_plane.specs.Slices.{Size, HasField, IsSlice, field_of, line_count, macroblocks, picture_count}
use Rattle.picture_plane.specs.laws.PlaceLaws.{field_lines, whole_lines, one_block_place}
use Rattle.picture_plane.specs.laws.SliceLaws.{has_field, one_slice_of_macroblock, slice_of_macroblock}
use Rattle.picture_plane.specs.laws.ApartLaws.{macroblock_of, same_row, one_picture_of_field}

-- the line of a coded picture that is a row of the frame
pub record IsLineOf (size : Size) (row : ℕ) : Type 0 where
  pub picture : ℕ
  pub line : ℕ
  pub there : picture < picture_count size
  pub below : line < line_count size
  pub is_row : frame_row (field_of size.interlace picture) line ≡ row

-- the coded picture that has a field
top_first : (interlace : ℕ) (top : Bool) → interlace ≡ 1 → (picture : ℕ) × (picture < 2) × (field_of interlace picture ≡ (if top then Top else Bottom))
top_first interlace true e = (0, omega arith, ap (λ (i : ℕ). field_of i 0) e)
top_first interlace false e = (1, omega arith, ap (λ (i : ℕ). field_of i 1) e)

bottom_first : (interlace : ℕ) (top : Bool) → interlace ≢ 0 → interlace ≢ 1 → (picture : ℕ) × (picture < 2) × (field_of interlace picture ≡ (if top then Top else Bottom))
bottom_first interlace true some other = (1, omega arith, rw (ne_eqb interlace 0 some, ne_eqb interlace 1 other) refl)
bottom_first interlace false some other = (0, omega arith, rw (ne_eqb interlace 0 some, ne_eqb interlace 1 other) refl)

picture_with : (interlace : ℕ) (top : Bool) → interlace ≢ 0 → (picture : ℕ) × (picture < 2) × (field_of interlace picture ≡ (if top then Top else Bottom))
picture_with interlace top h = elim (cases_eq interlace 1) [ inl first ↦ top_first interlace top first | inr other ↦ bottom_first interlace top h other ]

pub line_of_row : (size : Size) (row : ℕ) → IsSize size → row < size.height → IsLineOf size row
line_of_row size row is_size below =
    elim (cases_eq size.interlace 0) [
      | inl whole ↦
          let one : picture_count size ≡ 1 = rw whole refl in
          let field : field_of size.interlace 0 ≡ Whole = ap (λ (i : ℕ). field_of i 0) whole in
          record { picture = 0; line = row; there = omega arith; below = omega (arith, whole_lines size whole); is_row = ap (λ (f : Field). frame_row f row) field }
      | inr fields ↦
          let two : picture_count size ≡ 2 = rw (ne_eqb size.interlace 0 fields) refl in
          let lines = field_lines size fields in
          let even = is_size.even_rows fields in
          elim (cases_eq (row % 2) 0) [
            | inl top ↦
                let found = picture_with size.interlace true fields in
                record {
                  picture = found.0;
                  line = row / 2;
                  there = omega (arith, two, found.1);
                  below = omega (arith, lines, even);
                  is_row = ap (λ (f : Field). frame_row f (row / 2)) found.2 ∙ omega arith;
                }
            | inr bottom ↦
                let found = picture_with size.interlace false fields in
                record {
                  picture = found.0;
                  line = row / 2;
                  there = omega (arith, two, found.1);
                  below = omega (arith, lines, even);
                  is_row = ap (λ (f : Field). frame_row f (row / 2)) found.2 ∙ omega arith;
                }
          ]
    ]

-- the block and the place of a slice that stand at a line and a column of its macroblocks
pub record IsBlockPlace (name : SliceName) (plane : Plane) (line column : ℕ) : Type 0 where
  pub block : ℕ
  pub place : ℕ
  pub in_slice : block < blocks_of plane name.count
  pub in_block : place < 64
  pub on_line : line_of name plane block place ≡ line
  pub on_column : column_of name plane block place ≡ column

pub block_place_at : (name : SliceName) (plane : Plane) (line column : ℕ) → HasMacroblock name (line / 16) (column / macroblock_columns plane) → IsBlockPlace name plane line column
block_place_at name Y line column h = record {
  block = 4 * (column / 16 - name.first) + 2 * (line % 16 / 8) + column % 16 / 8;
  place = 8 * (line % 8) + column % 8;
  in_slice = omega (arith, h.to, h.from);
  in_block = omega arith;
  on_line = omega (arith, h.row);
  on_column = omega (arith, h.from);
}
block_place_at name Cb line column h = record {
  block = 2 * (column / 8 - name.first) + line % 16 / 8;
  place = 8 * (line % 8) + column % 8;
  in_slice = omega (arith, h.to, h.from);
  in_block = omega arith;
  on_line = omega (arith, h.row);
  on_column = omega (arith, h.from);
}
block_place_at name Cr line column h = record {
  block = 2 * (column / 8 - name.first) + line % 16 / 8;
  place = 8 * (line % 8) + column % 8;
  in_slice = omega (arith, h.to, h.from);
  in_block = omega arith;
  on_line = omega (arith, h.row);
  on_column = omega (arith, h.from);
}

-- a column of a plane is one of the row's macroblocks
pub macroblock_within : (size : Size) (plane : Plane) (column : ℕ) → column < columns size plane → column / macroblock_columns plane < macroblocks size.width
macroblock_within size Y column h = omega arith
macroblock_within size Cb column h = omega arith
macroblock_within size Cr column h = omega arith

-- the row of a line that is known
row_of_line : (f g : Field) (l m row : ℕ) → f ≡ g → l ≡ m → frame_row g m ≡ row → frame_row f l ≡ row
row_of_line f g l m row fields lines h = ap₂ frame_row fields lines ∙ h

-- each sample of a frame stands in a slice
pub spot_of : (size : Size) (log2 : ℕ → ℕ) (plane : Plane) (row column : ℕ) → IsSize size → row < size.height → column < columns size plane
    → (spot : Spot) × IsSpot size log2 plane row column spot
spot_of size log2 plane row column is_size below within =
    let line = line_of_row size row is_size below in
    let slice = slice_of_macroblock size (log2 line.picture) line.picture (line.line / 16) (column / macroblock_columns plane) (omega (arith, line.below)) (macroblock_within size plane column within) in
    let found = block_place_at slice.name plane line.line column slice.there in
    let field : slice.name.field ≡ field_of size.interlace line.picture = slice.named.field in (
      record { picture = line.picture; n = slice.n; name = slice.name; block = found.block; place = found.place },
      record {
        picture = line.there;
        named = slice.named;
        inside = record { in_slice = found.in_slice; in_block = found.in_block; line = omega (arith, found.on_line, line.below); column = omega (arith, found.on_column, within) };
        stands = record {
          in_slice = found.in_slice;
          in_block = found.in_block;
          on_row = row_of_line slice.name.field (field_of size.interlace line.picture) (line_of slice.name plane found.block found.place) line.line row field found.on_line line.is_row;
          on_column = found.on_column;
        };
      },
    )

-- a slice's number gives its name
name_with : Field → ℕ → ℕ → ℕ → SliceName
name_with field row first count = record { field = field; row = row; first = first; count = count }

pub one_name : (size : Size) (log2 picture n : ℕ) (a b : SliceName) → IsSlice size log2 picture n a → IsSlice size log2 picture n b → a ≡ b
unfolding name_with
one_name size log2 picture n a b is_a is_b =
    ap (λ (f : Field). name_with f a.row a.first a.count) (is_a.field ∙ sym is_b.field)
    ∙ (ap (λ (k : ℕ). name_with b.field k a.first a.count) (is_a.row ∙ sym is_b.row)
    ∙ (ap (λ (k : ℕ). name_with b.field b.row k a.count) (is_a.first ∙ sym is_b.first)
    ∙ ap (λ (k : ℕ). name_with b.field b.row b.first k) (is_a.count ∙ sym is_b.count)))

pub slice_field : (size : Size) (log2 picture n : ℕ) (name : SliceName) → IsSlice size log2 picture n name → HasField size.interlace name.field
slice_field size log2 picture n name s = subst (HasField size.interlace) (sym s.field) (has_field size.interlace picture)

spot_with : ℕ → ℕ → SliceName → ℕ → ℕ → Spot
spot_with picture n name block place = record { picture = picture; n = n; name = name; block = block; place = place }

same_spot : (a b : Spot) → a.picture ≡ b.picture → a.n ≡ b.n → a.name ≡ b.name → a.block ≡ b.block → a.place ≡ b.place → a ≡ b
unfolding spot_with
same_spot a b picture n name block place =
    ap (λ (k : ℕ). spot_with k a.n a.name a.block a.place) picture
    ∙ (ap (λ (k : ℕ). spot_with b.picture k a.name a.block a.place) n
    ∙ (ap (λ (s : SliceName). spot_with b.picture b.n s a.block a.place) name
    ∙ (ap (λ (k : ℕ). spot_with b.picture b.n b.name k a.place) block
    ∙ ap (λ (k : ℕ). spot_with b.picture b.n b.name b.block k) place)))

-- and in no other, and at one place of it
pub one_spot : (size : Size) (log2 : ℕ → ℕ) (plane : Plane) (row column : ℕ) (a b : Spot) → IsSpot size log2 plane row column a → IsSpot size log2 plane row column b → a ≡ b
one_spot size log2 plane row column a b is_a is_b =
    let line_a = line_of a.name plane a.block a.place in let line_b = line_of b.name plane b.block b.place in
    let column_a = column_of a.name plane a.block a.place in let column_b = column_of b.name plane b.block b.place in
    let field_a = slice_field size (log2 a.picture) a.picture a.n a.name is_a.named in
    let field_b = slice_field size (log2 b.picture) b.picture b.n b.name is_b.named in
    let lines = same_row size.interlace a.name.field b.name.field line_a line_b field_a field_b (is_a.stands.on_row ∙ sym is_b.stands.on_row) in
    let columns : column_a ≡ column_b = is_a.stands.on_column ∙ sym is_b.stands.on_column in
    let pictures : a.picture ≡ b.picture = one_picture_of_field size a.picture b.picture is_a.picture is_b.picture (sym is_a.named.field ∙ (lines.fields ∙ is_b.named.field)) in
    let named_b : IsSlice size (log2 a.picture) a.picture b.n b.name = subst (λ (p : ℕ). IsSlice size (log2 p) p b.n b.name) (sym pictures) is_b.named in
    let in_a = macroblock_of a.name plane a.block a.place is_a.stands.in_slice is_a.stands.in_block in
    let in_b = macroblock_of b.name plane b.block b.place is_b.stands.in_slice is_b.stands.in_block in
    let Rows : ℕ → Type 0 = λ l. HasMacroblock b.name (l / 16) (column_b / macroblock_columns plane) in
    let Columns : ℕ → Type 0 = λ c. HasMacroblock b.name (line_a / 16) (c / macroblock_columns plane) in
    let in_b_too : HasMacroblock b.name (line_a / 16) (column_a / macroblock_columns plane) = subst Columns (sym columns) (subst Rows (sym lines.lines) in_b) in
    let numbers : a.n ≡ b.n =
    one_slice_of_macroblock size (log2 a.picture) a.picture a.n b.n (line_a / 16) (column_a / macroblock_columns plane) a.name b.name is_a.named named_b in_a in_b_too in
    let names : a.name ≡ b.name =
    one_name size (log2 a.picture) a.picture a.n a.name b.name is_a.named (subst (λ (n : ℕ). IsSlice size (log2 a.picture) a.picture n b.name) (sym numbers) named_b) in
    let places =
    one_block_place a.name plane a.block b.block a.place b.place is_a.stands.in_block is_b.stands.in_block
    (lines.lines ∙ ap (λ (s : SliceName). line_of s plane b.block b.place) (sym names))
    (columns ∙ ap (λ (s : SliceName). column_of s plane b.block b.place) (sym names)) in
    same_spot a b pictures numbers names places.0 places.1
