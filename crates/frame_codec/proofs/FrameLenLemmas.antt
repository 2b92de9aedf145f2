-- A coded frame is short enough to be written.
use Rattle.std.proofs.Common.{◌≡◌, ◌<◌, ◌≤◌, ◌+◌, ◌*◌, ◌/◌, ◌%◌, ◌==◌, ℕ, List, [], ◌∷◌, ◌++◌, Bool, true, false, All}
use Rattle.std.proofs.Common.{length, take, drop, get_or, refl, sym, ap, subst, ◌∙◌, arith, if◌then◌else◌}
use Rattle.std.proofs.lemmas.List.{length-append, length-map, take-append-drop}
use Rattle.std.proofs.lemmas.List.Elements.{All-head, All-tail, All-from_get_or}
use Rattle.std.proofs.lemmas.Grind.{flat_map-append}
use Rattle.std.proofs.lemmas.Nat.{mul-le}
use Rattle.rec_bytes.specs.Configuration.{Fields}
use Rattle.rec_bytes.specs.Ranges.{IsInRange}
use Rattle.picture_plane.specs.Pictures.{Planes}
use Rattle.picture_plane.specs.Sizes.{size_of}
use Rattle.picture_plane.specs.Slices.{Size, macroblocks, picture_count, row_widths, slices_per_picture, slice_total}
use Rattle.picture_plane.specs.laws.WidthLaws.{length-widths-le}
use Rattle.slice_codec.specs.laws.CutLaws.{slice_samples_are}
use Rattle.slice_codec.specs.laws.LengthLaws.{coded_slice_len}
use Rattle.frame_syntax.specs.Headers.{size_of as head_size_of, loaded_len, least_head}
use Rattle.frame_syntax.specs.Written.{joined, lengths, table_of, picture_front, picture_bytes, pictures_bytes}
use Rattle.frame_syntax.specs.Written.{loaded_bytes, format_bytes, matrix_bytes, head_bytes, frame_front, frame_bytes}
use Rattle.frame_syntax.specs.declared.frame_head.FrameHead.{FrameHead}
use Rattle.frame_codec.specs.Coded.{AreCodedSlices}
use Rattle.frame_codec.proofs.FrameSliceLemmas.{slice_of_number, few_macroblocks}

-- no slice has more bytes than eight macroblocks may have
abbrev pub AreFewBytes : List (List ℕ) → Type 0
AreFewBytes slices = All (λ (slice : List ℕ). length slice ≤ 32776) slices

pub slices_are_short : (fields : Fields) (source : Planes) (slices : List (List ℕ)) → IsInRange fields
    → AreCodedSlices fields source slices → AreFewBytes slices
slices_are_short fields source slices ranges coded = All-from_get_or (λ (slice : List ℕ). length slice ≤ 32776) slices [] (λ index lt.
    let size = size_of fields in
    let per : ℕ = slices_per_picture size fields.log2 in
    let found = slice_of_number size fields.log2 index (subst (λ (k : ℕ). index < k) coded.counted lt) in
    let few = few_macroblocks size fields.log2 (index / per) (index % per) found.0 ranges.log2 found.1 in
    let cut = coded.each index found.0 lt found.1 in
    let most = coded_slice_len fields found.0.count cut.samples (get_or slices index []) few ranges.qmin.least ranges.qmax.most
    (slice_samples_are cut.samples found.0.count few cut.whole) cut.coded in
    omega (arith, most, few))

joined_most : (slices : List (List ℕ)) → AreFewBytes slices → length (joined slices) ≤ 32776 * length slices
joined_most [] few = omega arith
joined_most (slice ∷ slices) few =
    let one = All-head (λ (s : List ℕ). length s ≤ 32776) slice slices few in
    let others = joined_most slices (All-tail (λ (s : List ℕ). length s ≤ 32776) slice slices few) in
    omega (arith, one, others, length-append slice (joined slices))

-- slices in two runs, one behind the other
pub joined_len : (n : ℕ) (slices : List (List ℕ)) → length (joined slices) ≡ length (joined (take n slices)) + length (joined (drop n slices))
joined_len n slices =
    let runs = flat_map-append (λ (slice : List ℕ). slice) (take n slices) (drop n slices) in
    ap (λ (ss : List (List ℕ)). length (joined ss)) (sym (take-append-drop n slices))
    ∙ ap length runs
    ∙ length-append (joined (take n slices)) (joined (drop n slices))

table_len : (sizes : List ℕ) → length (table_of sizes) ≡ 2 * length sizes
table_len [] = refl
table_len (size ∷ sizes) = omega (arith, table_len sizes)

front_len : (log2 : ℕ) (sizes : List ℕ) → length (picture_front log2 sizes) ≡ 8 + 2 * length sizes
unfolding picture_front
front_len log2 sizes = omega (arith, table_len sizes)

picture_len : (log2 : ℕ) (slices : List (List ℕ)) → length (picture_bytes log2 slices) ≡ 8 + 2 * length slices + length (joined slices)
picture_len log2 slices =
    let many : length (lengths slices) ≡ length slices = length-map slices (λ (slice : List ℕ). length slice) in
    omega (arith, many, length-append (picture_front log2 (lengths slices)) (joined slices), front_len log2 (lengths slices))

pictures_len : (one : Bool) (log2 n : ℕ) (slices : List (List ℕ))
    → length (if one then picture_bytes log2 slices else picture_bytes log2 (take n slices) ++ picture_bytes log2 (drop n slices))
    ≡ 8 * (if one then 1 else 2) + 2 * length slices + length (joined slices)
pictures_len true log2 n slices = omega (arith, picture_len log2 slices)
pictures_len false log2 n slices =
    let first : List (List ℕ) = take n slices in
    let second : List (List ℕ) = drop n slices in
    let all : length slices ≡ length first + length second = ap length (sym (take-append-drop n slices)) ∙ length-append first second in
    let a = picture_len log2 first in
    let z = picture_len log2 second in
    omega (arith, all, a, z, joined_len n slices, length-append (picture_bytes log2 first) (picture_bytes log2 second))

-- a matrix of 64 weights, or none
loaded_matrix : (loaded : Bool) (matrix : List ℕ) → length matrix ≡ 64 → length (loaded_bytes loaded matrix) ≡ loaded_len loaded
loaded_matrix true matrix long = long
loaded_matrix false matrix long = refl

frame_front_len : (head : FrameHead) (n : ℕ) → length head.encoder ≡ 4 → length head.luma ≡ 64 → length head.chroma ≡ 64
    → length (frame_front head n) ≡ 8 + least_head head.load_luma head.load_chroma
frame_front_len head n encoder luma chroma = omega (
  arith,
  encoder,
  length-append (head.encoder ++ format_bytes head) (matrix_bytes head),
  length-append head.encoder (format_bytes head),
  length-append (loaded_bytes head.load_luma head.luma) (loaded_bytes head.load_chroma head.chroma),
  loaded_matrix head.load_luma head.luma luma,
  loaded_matrix head.load_chroma head.chroma chroma,
)

-- a frame has its header, eight bytes for each of its coded pictures, two for each of its slices, and its slices
pub frame_len : (head : FrameHead) (log2 : ℕ) (slices : List (List ℕ)) → length head.encoder ≡ 4 → length head.luma ≡ 64 → length head.chroma ≡ 64
    → length (frame_bytes head log2 slices)
    ≡ 8 + least_head head.load_luma head.load_chroma + 8 * picture_count (head_size_of head) + 2 * length slices + length (joined slices)
unfolding frame_bytes
frame_len head log2 slices encoder luma chroma =
    let size = head_size_of head in
    let pictures : List ℕ = pictures_bytes size log2 slices in
    let len : ℕ = 8 + length (head_bytes head) + length pictures in
    let behind = pictures_len (size.interlace == 0) log2 (slices_per_picture size log2) slices in
    omega (arith, behind, length-append (frame_front head len) pictures, frame_front_len head len encoder luma chroma)

pub least_head_most : (luma chroma : Bool) → least_head luma chroma ≤ 148
least_head_most true true = omega arith
least_head_most true false = omega arith
least_head_most false true = omega arith
least_head_most false false = omega arith

pub few_pictures : (one : Bool) → (if one then 1 else 2) ≤ 2
few_pictures true = omega arith
few_pictures false = omega arith

-- a frame of such slices
pub frame_most : (head : FrameHead) (log2 : ℕ) (slices : List (List ℕ)) → length head.encoder ≡ 4 → length head.luma ≡ 64 → length head.chroma ≡ 64
    → AreFewBytes slices → length (frame_bytes head log2 slices) ≤ 172 + 32778 * length slices
frame_most head log2 slices encoder luma chroma few = omega (
  arith,
  frame_len head log2 slices encoder luma chroma,
  least_head_most head.load_luma head.load_chroma,
  few_pictures ((head_size_of head).interlace == 0),
  joined_most slices few,
)

-- one or two coded pictures with rows of so many slices, or of so many macroblocks
pub few_slices : (one : Bool) (height k : ℕ) → height ≤ 2304 → k ≤ 256
    → (if one then 1 else 2) * (macroblocks (height / (if one then 1 else 2)) * k) ≤ 36864
few_slices true height k low few = omega (arith, mul-le (macroblocks (height / 1)) k 144 256 (omega (arith, low)) few)
few_slices false height k low few = omega (arith, mul-le (macroblocks (height / 2)) k 72 256 (omega (arith, low)) few)

-- a frame has no more slices than macroblocks
pub slices_are_few : (size : Size) (log2 : ℕ) → size.width ≤ 4096 → size.height ≤ 2304 → slice_total size log2 ≤ 36864
slices_are_few size log2 narrow low =
    let many : length (row_widths size log2) ≤ 256 = omega (arith, narrow, length-widths-le log2 (macroblocks size.width)) in
    few_slices (size.interlace == 0) size.height (length (row_widths size log2)) low many
