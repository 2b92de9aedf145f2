-- A coded picture that is written is read back.
use Rattle.std.proofs.Common.{◌≡◌, ℕ, ◌+◌, ◌*◌, ◌/◌, ◌%◌, ◌^◌, ◌<◌, ◌≤◌, List, [], ◌∷◌, ◌++◌, true, All, length, take, drop, get_or, map, sum, refl, sym, ap, ap₂, ◌∙◌, arith, append_assoc, slice_index}
use Rattle.std.proofs.lemmas.Bool.{le-leb}
use Rattle.std.proofs.lemmas.List.{drop-drop, drop_at, take_at, get_or-drop, length-append, length-drop}
use Rattle.std.proofs.lemmas.List.Elements.{All-tail, All-head}
use Rattle.byteorder.specs.Endian.{big_number, big_bytes}
use Rattle.byteorder.specs.Numbers.{big_number-reads_back}
use Rattle.picture_plane.specs.Slices.{Size, slices_per_picture}
use Rattle.frame_syntax.specs.Pictures.{picture_of, slice_sizes, spans_from, spans_of, SlicesFit}
use Rattle.frame_syntax.specs.Rules.{is_sized}
use Rattle.frame_syntax.specs.Written.{joined, lengths, table_of, picture_front, picture_bytes, slice_bytes}
use Rattle.frame_syntax.specs.declared.picture_head.PictureHead.{PictureHead}
use Rattle.frame_syntax.specs.laws.LengthLaws.{length-joined, length-lengths, length-picture_front}

-- every slice is short enough for its entry
abbrev pub AreShort : List (List ℕ) → Type 0
AreShort slices = All (λ (slice : List ℕ). length slice < 256 ^ 2) slices

-- a slice table that is written is read
pub table_reads : (slices : List (List ℕ)) (rest : List ℕ) → AreShort slices → slice_sizes (length slices) (table_of (lengths slices) ++ rest) ≡ lengths slices
unfolding slice_sizes
table_reads [] rest short = refl
table_reads (slice ∷ slices) rest short =
    let n : ℕ = length slice in
    ap₂ (λ (size : ℕ) (sizes : List ℕ). size ∷ sizes)
    (big_number-reads_back 2 n (table_of (lengths slices) ++ rest) (All-head (λ (s : List ℕ). length s < 256 ^ 2) slice slices short))
    (table_reads slices rest (All-tail (λ (s : List ℕ). length s < 256 ^ 2) slice slices short))

-- slices that lie one behind the other are found
pub spans_read : (bytes post : List ℕ) (slices : List (List ℕ)) (at : ℕ) → drop at bytes ≡ joined slices ++ post → map (slice_bytes bytes) (spans_from at (lengths slices)) ≡ slices
unfolding spans_from
spans_read bytes post [] at e = refl
spans_read bytes post (slice ∷ slices) at e =
    let n : ℕ = length slice in
    let here : drop at bytes ≡ slice ++ (joined slices ++ post) = e ∙ append_assoc slice (joined slices) post in
    let one : take n (drop at bytes) ≡ slice = ap (take n) here ∙ take_at slice (joined slices ++ post) n refl in
    let next : drop (at + n) bytes ≡ joined slices ++ post = sym (drop-drop n at bytes) ∙ (ap (drop n) here ∙ drop_at slice (joined slices ++ post) n refl) in
    ap₂ (λ (s : List ℕ) (ss : List (List ℕ)). s ∷ ss) one (spans_read bytes post slices (at + n) next)

-- the header of a coded picture of these slices
abbrev pub written_picture : Size → ℕ → ℕ → List (List ℕ) → PictureHead
written_picture size at log2 slices =
    record { at = at; head_size = 8; size = 8 + 2 * length (lengths slices) + sum (lengths slices); log2 = log2; slices = slices_per_picture size log2 }

-- what the bytes from a place on hold
pub record Stands (bytes : List ℕ) (size : Size) (at log2 : ℕ) (slices : List (List ℕ)) : Type 0 where
  pub picture : picture_of bytes size at ≡ written_picture size at log2 slices
  pub sized : is_sized (length bytes) (written_picture size at log2 slices) ≡ true
  pub fit : SlicesFit bytes (written_picture size at log2 slices)
  pub spans : map (slice_bytes bytes) (spans_of bytes (written_picture size at log2 slices)) ≡ slices

-- a coded picture that stands at a place is read there
pub picture_reads : (bytes post : List ℕ) (size : Size) (at log2 : ℕ) (slices : List (List ℕ)) → drop at bytes ≡ picture_bytes log2 slices ++ post → log2 ≤ 3
    → length slices ≡ slices_per_picture size log2 → AreShort slices → 8 + 2 * length (lengths slices) + sum (lengths slices) < 256 ^ 4 → Stands bytes size at log2 slices
unfolding picture_of picture_front
picture_reads bytes post size at log2 slices there desired count short small =
    let sizes : List ℕ = lengths slices in
    let total : ℕ = 8 + 2 * length sizes + sum sizes in
    let rest : List ℕ = joined slices ++ post in
    let here : drop at bytes ≡ picture_front log2 sizes ++ rest = there ∙ append_assoc (picture_front log2 sizes) (joined slices) post in
    let first : slice_index bytes at ≡ 64 = ap (λ (k : ℕ). get_or bytes k 0) (omega arith) ∙ sym (get_or-drop at bytes 0 0) ∙ ap (λ (xs : List ℕ). get_or xs 0 0) here in
    let last : slice_index bytes (at + 7) ≡ 16 * log2 = sym (get_or-drop at bytes 7 0) ∙ ap (λ (xs : List ℕ). get_or xs 7 0) here in
    let head_is : slice_index bytes at / 8 ≡ 8 = ap (λ (n : ℕ). n / 8) first in
    let log2_is : slice_index bytes (at + 7) / 16 % 4 ≡ log2 = ap (λ (n : ℕ). n / 16 % 4) last ∙ omega arith in
    let tail : drop (at + 1) bytes ≡ big_bytes 4 total ++ (big_bytes 2 (length sizes) ++ ((16 * log2) ∷ (table_of sizes ++ rest))) =
    sym (drop-drop 1 at bytes) ∙ ap (drop 1) here in
    let size_is : big_number 4 (drop (at + 1) bytes) ≡ total =
    ap (big_number 4) tail ∙ big_number-reads_back 4 total (big_bytes 2 (length sizes) ++ ((16 * log2) ∷ (table_of sizes ++ rest))) small in
    let table : drop (at + 8) bytes ≡ table_of sizes ++ rest = sym (drop-drop 8 at bytes) ∙ ap (drop 8) here in
    let n : ℕ = slices_per_picture size log2 in
    let read : slice_sizes n (drop (at + 8) bytes) ≡ sizes = ap₂ slice_sizes (sym count) table ∙ table_reads slices rest short in
    let many : length sizes ≡ n = length-lengths slices ∙ count in
    let start : drop (at + (8 + 2 * n)) bytes ≡ rest =
    sym (drop-drop (8 + 2 * n) at bytes) ∙ (ap (drop (8 + 2 * n)) here ∙ drop_at (picture_front log2 sizes) rest (8 + 2 * n) (omega (arith, length-picture_front log2 sizes, many))) in
    let whole = ap (length {A = ℕ}) here in
    let left = length-drop at bytes in
    let long : length (picture_front log2 sizes ++ rest) ≡ total + length post =
    omega (arith, length-append (picture_front log2 sizes) rest, length-append (joined slices) post, length-joined slices, length-picture_front log2 sizes) in
    let within : at + total ≤ length bytes = omega (arith, whole, left, long) in
    record {
      picture = λ i. record { at = at; head_size = head_is i; size = size_is i; log2 = log2_is i; slices = slices_per_picture size (log2_is i) };
      sized = rw (le-leb (at + 8) (length bytes) (omega (arith, within)), le-leb (8 + 2 * n) total (omega (arith, many)), le-leb (at + total) (length bytes) within) refl;
      fit = (let e = ap sum read in omega (arith, e, many));
      spans = ap (λ (xs : List ℕ). map (slice_bytes bytes) (spans_from (at + (8 + 2 * n)) xs)) read ∙ spans_read bytes post slices (at + (8 + 2 * n)) start;
    }
