-- Slices that lie one behind the other.
use Rattle.std.proofs.Common.{◌≡◌, ◌≢◌, ℕ, suc, ◌+◌, ◌-◌, ◌<◌, List, [], ◌∷◌, length, drop, sum, Option, Some, None, refl, sym, ap, subst, ◌∙◌, arith}
use Rattle.std.proofs.lemmas.List.{drop-drop, length-append, length-drop}
use Rattle.std.proofs.lemmas.List.Sums.{sum_by-cons}
use Rattle.byteorder.specs.Endian.{big_number}
use Rattle.frame_syntax.specs.Pictures.{Span, slice_sizes, spans_from, spans_of, sizes_of, table_at, front_len}
use Rattle.frame_syntax.specs.Frames.{IsFrame, slices_of, slices_in, parts_with, second_picture}
use Rattle.frame_syntax.specs.Headers.{header_of}
use Rattle.frame_syntax.specs.Rules.{first_picture}
use Rattle.frame_syntax.specs.declared.frame.FrameParts.{FrameParts}
use Rattle.frame_syntax.specs.inner.Runs.{spans_in_run}
use Rattle.frame_syntax.specs.declared.frame_head.FrameHead.{FrameHead}
use Rattle.frame_syntax.specs.declared.picture_head.PictureHead.{PictureHead}
use Rattle.frame_syntax.specs.declared.frame_slices.SliceRun.{SliceRun}
use Rattle.frame_syntax.proofs.TableLemmas.{length-slice_sizes}

-- the sizes that are left are the next one and those behind it
pub sizes_next : (bytes : List ℕ) (at left size : ℕ) → 0 < left → size ≡ big_number 2 (drop at bytes)
    → slice_sizes left (drop at bytes) ≡ size ∷ slice_sizes (left - 1) (drop (at + 2) bytes)
unfolding slice_sizes
sizes_next bytes at left size some e =
    let more : left ≡ suc (left - 1) = omega arith in
    let behind : drop 2 (drop at bytes) ≡ drop (at + 2) bytes = drop-drop 2 at bytes in
    ap (λ n. slice_sizes n (drop at bytes)) more ∙ rw (behind, sym e) refl

-- and so is their sum
pub sum_next_size : (bytes : List ℕ) (at left size : ℕ) → 0 < left → size ≡ big_number 2 (drop at bytes)
    → sum (slice_sizes left (drop at bytes)) ≡ size + sum (slice_sizes (left - 1) (drop (at + 2) bytes))
sum_next_size bytes at left size some e = ap sum (sizes_next bytes at left size some e) ∙ sum_by-cons (λ x. x) size (slice_sizes (left - 1) (drop (at + 2) bytes))

-- and so are the slices
pub spans_next : (at size : ℕ) (sizes : List ℕ) → spans_from at (size ∷ sizes) ≡ (at, size) ∷ spans_from (at + size) sizes
unfolding spans_from
spans_next at size sizes = refl

-- no slices are left
pub spans_none : (bytes : List ℕ) (run : SliceRun) → run.left ≡ 0 → spans_in_run bytes run ≡ []
unfolding slice_sizes spans_from
spans_none bytes run e = rw e refl

pub length-spans_from : (at : ℕ) (sizes : List ℕ) → length (spans_from at sizes) ≡ length sizes
unfolding spans_from
length-spans_from at [] = refl
length-spans_from at (size ∷ sizes) = ap suc (length-spans_from (at + size) sizes)

-- the slices of a coded picture are as many as it has
pub length-spans_of : (bytes : List ℕ) (picture : PictureHead) → length (spans_of bytes picture) ≡ picture.slices
length-spans_of bytes p = length-spans_from (p.at + front_len p) (sizes_of bytes p) ∙ length-slice_sizes p.slices (drop (table_at p) bytes)

-- and those of a frame
pub length-slices : (bytes : List ℕ) (head : FrameHead) (first : PictureHead) (second : Option PictureHead) → length (slices_of bytes (parts_with head first second)) ≡ slices_in first second
length-slices bytes head first None = omega (arith, length-append (spans_of bytes first) [], length-spans_of bytes first)
length-slices bytes head first (Some second) =
    omega (arith, length-append (spans_of bytes first) (spans_of bytes second), length-spans_of bytes first, length-spans_of bytes second)

-- so a frame has as many slices as its parts say
pub slices_count : (bytes : List ℕ) (parts : FrameParts) → IsFrame bytes parts → length (slices_of bytes parts) ≡ parts.slices
slices_count bytes parts frame =
    let head = header_of bytes in
    let first = first_picture bytes head in
    subst (λ (p : FrameParts). length (slices_of bytes p) ≡ p.slices) frame.stand (length-slices bytes head first (second_picture bytes head first))

-- some are left behind fewer than all
pub some_left : (n : ℕ) (spans : List Span) → n < length spans → drop n spans ≢ []
some_left n spans h e =
    let none : length (drop n spans) ≡ 0 = ap (length {A = Span}) e in
    omega (arith, length-drop n spans)
