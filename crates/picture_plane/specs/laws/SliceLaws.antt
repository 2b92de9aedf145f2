-- Laws of the slices of a frame: proved here, for proofs to cite.
use Rattle.std.proofs.Common.{◌≡◌, ◌≢◌, ℕ, ◌+◌, ◌*◌, ◌/◌, ◌%◌, ◌<◌, ◌≤◌, length, take, ◌==◌, if◌then◌else◌, Bool, true, false}
use Rattle.std.proofs.Common.{refl, sym, ap, ◌∙◌, arith, get_or, inl, inr, subst}
use Rattle.std.specs.Prelude.{sum}
use Rattle.std.proofs.lemmas.Bool.{cases_eq, cases_lt, ne_eqb}
use Rattle.std.proofs.lemmas.List.Sums.{sum_by_more_le}
use Rattle.std.proofs.lemmas.Nat.{mul-add-lt, div-mul-add, mod-mul-add, div_below, mod_below, div-add-mod'}
use Rattle.picture_plane.specs.declared.slice_names.Field.TheVariants.{Top, Bottom}
use Rattle.picture_plane.specs.declared.slice_names.SliceName.{SliceName}
use Rattle.picture_plane.specs.Slices.{Size, macroblocks, row_count, row_widths, slices_per_picture, field_of, IsSlice, HasField, FitsSize}
use Rattle.picture_plane.specs.Covering.{HasMacroblock}
use Rattle.picture_plane.specs.laws.WidthLaws.{sum-widths, counts_of_widths, LiesIn, slice_with, one_slice_with, IsCount}

-- a frame has the fields of its coded pictures
top_or_bottom : (interlace : ℕ) (first top : Bool) → interlace ≢ 0 → HasField interlace (if first then (if top then Top else Bottom) else (if top then Bottom else Top))
top_or_bottom interlace true true h = h
top_or_bottom interlace true false h = h
top_or_bottom interlace false true h = h
top_or_bottom interlace false false h = h

pub has_field : (interlace picture : ℕ) → HasField interlace (field_of interlace picture)
has_field interlace picture =
    elim (cases_eq interlace 0) [
      | inl same ↦ subst (λ (i : ℕ). HasField i (field_of i picture)) (sym same) refl
      | inr other ↦ rw (ne_eqb interlace 0 other) (top_or_bottom interlace (interlace == 1) (picture == 0) other)
    ]

some_count : (n : ℕ) → IsCount n → (1 ≤ n) × (n ≤ 8)
some_count n (inl one) = (omega arith, omega arith)
some_count n (inr (inl two)) = (omega arith, omega arith)
some_count n (inr (inr (inl four))) = (omega arith, omega arith)
some_count n (inr (inr (inr eight))) = (omega arith, omega arith)

-- where a coded picture has slices, a row has
row_has_some : (size : Size) (log2 n : ℕ) → n < slices_per_picture size log2 → 0 < length (row_widths size log2)
row_has_some size log2 n h =
    elim (cases_lt 0 (length (row_widths size log2))) [
      | inl some ↦ some
      | inr none ↦
          let empty : length (row_widths size log2) ≡ 0 = omega arith in
          let nothing : row_count size * length (row_widths size log2) ≡ row_count size * 0 = ap (λ (k : ℕ). row_count size * k) empty in
          absurd (omega (arith, nothing, h))
    ]

-- each slice has macroblocks that the frame has
pub slice_fits : (size : Size) (log2 picture n : ℕ) (name : SliceName) → log2 ≤ 3 → IsSlice size log2 picture n name → FitsSize size name
slice_fits size log2 picture n name small s =
    let widths = row_widths size log2 in let long = length widths in
    let some : 0 < long = row_has_some size log2 n s.within in
    let at : n % long < long = mod_below n long some in
    let counts = some_count (get_or widths (n % long) 0) (counts_of_widths log2 (macroblocks size.width) (n % long) small at) in
    record {
      field = subst (HasField size.interlace) (sym s.field) (has_field size.interlace picture);
      row = omega (arith, s.row, div_below n long (row_count size) some s.within);
      some = omega (arith, s.count, counts.0);
      most = omega (arith, s.count, counts.1);
      within = omega (arith, s.first, s.count, sum_by_more_le (λ (x : ℕ). x) widths (n % long) 0 at, sum-widths log2 (macroblocks size.width));
    }

-- the slice of a coded picture that has a macroblock
pub record IsSliceWith (size : Size) (log2 picture row column : ℕ) : Type 0 where
  pub n : ℕ
  pub name : SliceName
  pub named : IsSlice size log2 picture n name
  pub there : HasMacroblock name row column

-- each macroblock of a coded picture is in a slice
pub slice_of_macroblock : (size : Size) (log2 picture row column : ℕ) → row < row_count size → column < macroblocks size.width → IsSliceWith size log2 picture row column
slice_of_macroblock size log2 picture row column below within =
    let widths = row_widths size log2 in let long = length widths in
    let inside : column < sum widths = omega (arith, sum-widths log2 (macroblocks size.width)) in
    let found = slice_with widths column inside in
    let at = found.1 in let k : ℕ = found.0 in
    let row_is : (row * long + k) / long ≡ row = div-mul-add row long k at.within in
    let place_is : (row * long + k) % long ≡ k = mod-mul-add row long k at.within in
    record {
      n = row * long + k;
      name = record { field = field_of size.interlace picture; row = row; first = sum (take k widths); count = get_or widths k 0 };
      named = record {
        within = omega (arith, mul-add-lt row long k (row_count size) below at.within);
        field = refl;
        row = sym row_is;
        first = ap (λ (i : ℕ). sum (take i widths)) (sym place_is);
        count = ap (λ (i : ℕ). get_or widths i 0) (sym place_is);
      };
      there = record { row = refl; from = at.from; to = at.to };
    }

lies_in : (size : Size) (log2 picture n row column : ℕ) (name : SliceName) → IsSlice size log2 picture n name → HasMacroblock name row column → LiesIn (row_widths size log2) column (n % length (row_widths size log2))
lies_in size log2 picture n row column name s h =
    let widths = row_widths size log2 in let long = length widths in
    record {
      within = mod_below n long (row_has_some size log2 n s.within);
      from = omega (arith, s.first, h.from);
      to = omega (arith, s.first, s.count, h.to);
    }

-- and in no other
pub one_slice_of_macroblock : (size : Size) (log2 picture m n row column : ℕ) (a b : SliceName) → IsSlice size log2 picture m a → IsSlice size log2 picture n b
    → HasMacroblock a row column → HasMacroblock b row column → m ≡ n
one_slice_of_macroblock size log2 picture m n row column a b p q ha hb =
    let widths = row_widths size log2 in let long = length widths in
    let rows : m / long ≡ n / long = sym p.row ∙ (ha.row ∙ (sym hb.row ∙ q.row)) in
    let places : m % long ≡ n % long =
    one_slice_with widths column (m % long) (n % long) (lies_in size log2 picture m row column a p ha) (lies_in size log2 picture n row column b q hb) in
    sym (div-add-mod' m long) ∙ (ap (λ (r : ℕ). r * long + m % long) rows ∙ (ap (λ (k : ℕ). n / long * long + k) places ∙ div-add-mod' n long))
