-- Laws of slices that are apart: proved here, for proofs to cite.
use Rattle.std.proofs.Common.{◌≡◌, ◌≢◌, ℕ, zero, suc, ◌==◌, if◌then◌else◌, Bool, true, false, ◌+◌, ◌-◌, ◌*◌, ◌/◌, ◌%◌, ◌<◌, List, refl, sym, ap, ◌∙◌, arith, inl, inr, subst, ap₂}
use Rattle.std.specs.Prelude.{min}
use Rattle.std.proofs.lemmas.Bool.{cases_lt, cases_eq, ne_eqb}
use Rattle.picture_plane.specs.declared.planes.Plane.{Plane}
use Rattle.picture_plane.specs.declared.planes.Plane.TheVariants.{Y, Cb, Cr}
use Rattle.picture_plane.specs.declared.slice_names.Field.{Field}
use Rattle.picture_plane.specs.declared.slice_names.Field.TheVariants.{Whole, Top, Bottom}
use Rattle.picture_plane.specs.declared.slice_names.SliceName.{SliceName}
use Rattle.picture_plane.specs.Blocks.{blocks_of, column_of, frame_row, line_of, macroblock_columns, AreCut, IsInside, IsPlaced, Shows, StandsAt}
use Rattle.picture_plane.specs.Covering.{AreApart, HasMacroblock}
use Rattle.picture_plane.specs.Pictures.{columns, sample_at, Planes}
use Rattle.std.proofs.lemmas.Nat.{div_below, div-add-mod'}
use Rattle.picture_plane.specs.Slices.{Size, FitsSize, HasField, IsFrameSlice, IsSlice, field_of, slice_total, slices_per_picture, line_count, picture_count}
use Rattle.picture_plane.specs.laws.PlaceLaws.{frame_row_below}
use Rattle.picture_plane.specs.laws.SliceLaws.{one_slice_of_macroblock}

-- samples that are cut out of a picture are shown by it
pub cut_is_shown : (planes : Planes) (name : SliceName) (samples : List (List ℕ)) → AreCut planes name samples → Shows planes name samples
cut_is_shown planes name samples cut plane block place inside =
    let line : min (line_of name plane block place) (line_count planes.size - 1) ≡ line_of name plane block place = omega (arith, inside.line) in
    let column : min (column_of name plane block place) (columns planes.size plane - 1) ≡ column_of name plane block place = omega (arith, inside.column) in
    sym (cut plane block place inside.in_slice inside.in_block
    ∙ ap₂ (λ (l c : ℕ). sample_at planes plane (frame_row name.field l) c) line column)

-- a place of a block stands in a macroblock of its slice
pub macroblock_of : (name : SliceName) (plane : Plane) (block place : ℕ) → block < blocks_of plane name.count → place < 64
    → HasMacroblock name (line_of name plane block place / 16) (column_of name plane block place / macroblock_columns plane)
macroblock_of name Y block place b p = record { row = omega arith; from = omega arith; to = omega arith }
macroblock_of name Cb block place b p = record { row = omega arith; from = omega arith; to = omega arith }
macroblock_of name Cr block place b p = record { row = omega arith; from = omega arith; to = omega arith }

-- two lines of fields of a frame that are one row are one line of one field
pub record IsSameLine (f g : Field) (l m : ℕ) : Type 0 where
  pub fields : f ≡ g
  pub lines : l ≡ m

pub same_row : (interlace : ℕ) (f g : Field) (l m : ℕ) → HasField interlace f → HasField interlace g → frame_row f l ≡ frame_row g m → IsSameLine f g l m
same_row interlace Whole Whole l m hf hg e = record { fields = refl; lines = e }
same_row interlace Top Top l m hf hg e = record { fields = refl; lines = omega arith }
same_row interlace Bottom Bottom l m hf hg e = record { fields = refl; lines = omega arith }
same_row interlace Whole Top l m hf hg e = absurd (hg hf)
same_row interlace Whole Bottom l m hf hg e = absurd (hg hf)
same_row interlace Top Whole l m hf hg e = absurd (hf hg)
same_row interlace Bottom Whole l m hf hg e = absurd (hf hg)
same_row interlace Top Bottom l m hf hg e = absurd (omega arith)
same_row interlace Bottom Top l m hf hg e = absurd (omega arith)

-- slices without a common macroblock have no common sample
pub apart_stand_apart : (interlace : ℕ) (a b : SliceName) (plane : Plane) (i k j m row column : ℕ) → HasField interlace a.field → HasField interlace b.field
    → AreApart a b → StandsAt a plane i k row column → StandsAt b plane j m row column → ⊥
apart_stand_apart interlace a b plane i k j m row column fa fb apart at_a at_b =
    let line_a = line_of a plane i k in let line_b = line_of b plane j m in
    let same = same_row interlace a.field b.field line_a line_b fa fb (at_a.on_row ∙ sym at_b.on_row) in
    let in_a = macroblock_of a plane i k at_a.in_slice at_a.in_block in
    let in_b = macroblock_of b plane j m at_b.in_slice at_b.in_block in
    let Rows : ℕ → Type 0 = λ l. HasMacroblock b (l / 16) (column_of b plane j m / macroblock_columns plane) in
    let Columns : ℕ → Type 0 = λ c. HasMacroblock b (line_a / 16) (c / macroblock_columns plane) in
    apart (line_a / 16) (column_of a plane i k / macroblock_columns plane) same.fields in_a
    (subst Columns (at_b.on_column ∙ sym at_a.on_column) (subst Rows (sym same.lines) in_b))

-- a slice that is put into a picture leaves what the picture shows of another
pub shows_stay : (old new : Planes) (a b : SliceName) (samples shown : List (List ℕ)) → FitsSize old.size a → FitsSize old.size b → AreApart a b
    → IsPlaced old new a samples → Shows old b shown → Shows new b shown
shows_stay old new a b samples shown fits_a fits_b apart placed before plane block place inside =
    let was : IsInside old.size b plane block place = subst (λ (size : Size). IsInside size b plane block place) placed.size inside in
    let row = frame_row b.field (line_of b plane block place) in let column = column_of b plane block place in
    let here : StandsAt b plane block place row column = record { in_slice = was.in_slice; in_block = was.in_block; on_row = refl; on_column = refl } in
    placed.others plane row column (frame_row_below old.size b.field (line_of b plane block place) fits_b.field was.line) was.column
    (λ i k at_a. apart_stand_apart old.size.interlace a b plane i k block place row column fits_a.field fits_b.field apart at_a here)
    ∙ before plane block place was

-- two slices of a coded picture are apart
pub slices_apart : (size : Size) (log2 picture m n : ℕ) (a b : SliceName) → IsSlice size log2 picture m a → IsSlice size log2 picture n b → m ≢ n → AreApart a b
slices_apart size log2 picture m n a b is_a is_b differ row column fields in_a in_b =
    differ (one_slice_of_macroblock size log2 picture m n row column a b is_a is_b in_a in_b)

-- the two coded pictures of a frame are two fields
top_not_bottom : (first : Bool) → (if first then Top else Bottom) ≡ (if first then Bottom else Top) → ⊥
top_not_bottom true e = cc
top_not_bottom false e = cc

two_fields : (interlace p q : ℕ) → interlace ≢ 0 → p < 2 → q < 2 → field_of interlace p ≡ field_of interlace q → p ≡ q
two_fields interlace zero zero h hp hq e = refl
two_fields interlace (suc zero) (suc zero) h hp hq e = refl
two_fields interlace zero (suc zero) h hp hq e =
    let test = ne_eqb interlace 0 h in absurd (top_not_bottom (interlace == 1) (rw test at e))
two_fields interlace (suc zero) zero h hp hq e =
    let test = ne_eqb interlace 0 h in absurd (top_not_bottom (interlace == 1) (sym (rw test at e)))
two_fields interlace (suc (suc p)) q h hp hq e = absurd (omega arith)
two_fields interlace p (suc (suc q)) h hp hq e = absurd (omega arith)

pub one_picture_of_field : (size : Size) (p q : ℕ) → p < picture_count size → q < picture_count size → field_of size.interlace p ≡ field_of size.interlace q → p ≡ q
one_picture_of_field size p q hp hq e =
    elim (cases_eq size.interlace 0) [
      | inl whole ↦
          let one : picture_count size ≡ 1 = rw whole refl in
          omega arith
      | inr fields ↦
          let two : picture_count size ≡ 2 = rw (ne_eqb size.interlace 0 fields) refl in
          two_fields size.interlace p q fields (omega arith) (omega arith) e
    ]

-- two slices of two coded pictures are apart
pub pictures_apart : (size : Size) (log2 log2' p q m n : ℕ) (a b : SliceName) → p < picture_count size → q < picture_count size
    → IsSlice size log2 p m a → IsSlice size log2' q n b → p ≢ q → AreApart a b
pictures_apart size log2 log2' p q m n a b hp hq is_a is_b differ row column fields in_a in_b =
    differ (one_picture_of_field size p q hp hq (sym is_a.field ∙ (fields ∙ is_b.field)))

-- two slices of a frame are apart
pub frame_slices_apart : (size : Size) (log2 : ℕ → ℕ) (p q m n : ℕ) (a b : SliceName) → p < picture_count size → q < picture_count size
    → IsSlice size (log2 p) p m a → IsSlice size (log2 q) q n b → ((p ≡ q) × (m ≡ n) → ⊥) → AreApart a b
frame_slices_apart size log2 p q m n a b hp hq is_a is_b differ =
    elim (cases_eq p q) [
      | inl same ↦
          let is_b_too : IsSlice size (log2 p) p n b = subst (λ (i : ℕ). IsSlice size (log2 i) i n b) (sym same) is_b in
          slices_apart size (log2 p) p m n a b is_a is_b_too (λ e. differ (same, e))
      | inr other ↦ pictures_apart size (log2 p) (log2 q) p q m n a b hp hq is_a is_b other
    ]

-- a slice's number names a coded picture that the frame has
pub picture_of : (size : Size) (log2 i : ℕ) → i < slice_total size log2 → i / slices_per_picture size log2 < picture_count size
picture_of size log2 i h =
    let per = slices_per_picture size log2 in
    elim (cases_lt 0 per) [
      | inl some ↦ div_below i per (picture_count size) some h
      | inr none ↦
          let nothing : picture_count size * per ≡ picture_count size * 0 = ap (λ (k : ℕ). picture_count size * k) (omega arith) in
          absurd (omega (arith, nothing, h))
    ]

-- two slices of a frame that is cut alike are apart where their numbers differ
pub numbers_apart : (size : Size) (log2 i j : ℕ) (a b : SliceName) → i < slice_total size log2 → j < slice_total size log2
    → IsFrameSlice size log2 i a → IsFrameSlice size log2 j b → i ≢ j → AreApart a b
numbers_apart size log2 i j a b hi hj is_a is_b differ =
    let per = slices_per_picture size log2 in
    frame_slices_apart size (λ p. log2) (i / per) (j / per) (i % per) (j % per) a b (picture_of size log2 i hi) (picture_of size log2 j hj) is_a is_b
    (λ same. differ (sym (div-add-mod' i per) ∙ (ap₂ (λ (q r : ℕ). q * per + r) same.0 same.1 ∙ div-add-mod' j per)))
