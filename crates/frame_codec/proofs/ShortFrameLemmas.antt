-- A coded frame is no longer than the room that its configuration asks for.
use Rattle.std.proofs.Common.{◌≡◌, ◌<◌, ◌≤◌, ◌+◌, ◌*◌, ◌/◌, ◌%◌, ◌^◌, ◌==◌, ℕ, zero, suc, List, [], ◌∷◌, Bool, true, false}
use Rattle.std.proofs.Common.{length, take, drop, get_or, sym, ap, subst, arith, if◌then◌else◌}
use Rattle.std.specs.Prelude.{sum}
use Rattle.std.proofs.lemmas.List.{length-append, length-take, length-drop, get_or-take, get_or-drop}
use Rattle.std.proofs.lemmas.List.Sums.{sum_by-cons}
use Rattle.std.proofs.Math.Nat.{mod-eq_of_lt, add-mod_left}
use Rattle.rec_bytes.specs.Configuration.{Fields}
use Rattle.rec_bytes.specs.Ranges.{IsInRange}
use Rattle.picture_plane.specs.Pictures.{Planes}
use Rattle.picture_plane.specs.Sizes.{size_of}
use Rattle.picture_plane.specs.Slices.{macroblocks, picture_count, row_count, row_widths, slices_per_picture, slice_total}
use Rattle.picture_plane.specs.laws.WidthLaws.{sum-widths}
use Rattle.slice_codec.specs.laws.CutLaws.{slice_samples_are}
use Rattle.slice_codec.specs.laws.LengthLaws.{coded_slice_len}
use Rattle.frame_syntax.specs.Written.{joined, head_of, frame_bytes, frame_room_of}
use Rattle.frame_syntax.specs.declared.frame_head.FrameHead.{FrameHead}
use Rattle.frame_codec.specs.Coded.{AreCodedSlices, IsCodedFrame}
use Rattle.frame_codec.specs.Laws.{IsSource}
use Rattle.frame_codec.proofs.FrameSliceLemmas.{slice_of_number, few_macroblocks}
use Rattle.frame_codec.proofs.FrameLenLemmas.{joined_len, frame_len, least_head_most, few_pictures, few_slices, slices_are_few}

-- so many slices, none longer than its place allows
record AreWithin (n : ℕ) (room : ℕ → ℕ) (slices : List (List ℕ)) : Type 0 where
  counted : length slices ≡ n
  each : (k : ℕ) → k < n → length (get_or slices k []) ≤ room k

-- such slices have no more bytes together
AreMost : ℕ → (ℕ → ℕ) → ℕ → Type 0
AreMost n room most = (slices : List (List ℕ)) → AreWithin n room slices → length (joined slices) ≤ most

-- a slice of so many macroblocks
abbrev room_for : ℕ → ℕ
room_for count = 4096 * count + 8

-- the slices of a row
row_most : (widths : List ℕ) (slices : List (List ℕ)) → AreWithin (length widths) (λ k. room_for (get_or widths k 0)) slices
    → length (joined slices) ≤ 4096 * sum widths + 8 * length widths
row_most [] [] are = omega arith
row_most [] (slice ∷ slices) are = absurd (omega (arith, are.counted))
row_most (width ∷ widths) [] are = absurd (omega (arith, are.counted))
row_most (width ∷ widths) (slice ∷ slices) are =
    let others = row_most widths slices (record { counted = omega (arith, are.counted); each = λ k lt. are.each (suc k) (omega (arith, lt)) }) in
    omega (arith, length-append slice (joined slices), sum_by-cons (λ (x : ℕ). x) width widths, are.each 0 (omega arith), others)

-- the first run of slices whose rooms repeat
first_run : (rows n : ℕ) (room : ℕ → ℕ) (slices : List (List ℕ)) → AreWithin (suc rows * n) (λ k. room (k % n)) slices
    → AreWithin n room (take n slices)
first_run rows n room slices are = record {
  counted = omega (arith, length-take n slices, are.counted);
  each = λ k lt.
      let here = are.each k (omega (arith, lt)) in
      subst (λ (s : List ℕ). length s ≤ room k) (sym (get_or-take n slices k [] lt))
      (subst (λ (i : ℕ). length (get_or slices k []) ≤ room i) (mod-eq_of_lt lt) here);
}

-- and the others
other_runs : (rows n : ℕ) (room : ℕ → ℕ) (slices : List (List ℕ)) → AreWithin (suc rows * n) (λ k. room (k % n)) slices
    → AreWithin (rows * n) (λ k. room (k % n)) (drop n slices)
other_runs rows n room slices are = record {
  counted = omega (arith, length-drop n slices, are.counted);
  each = λ k lt.
      let here = are.each (n + k) (omega (arith, lt)) in
      subst (λ (s : List ℕ). length s ≤ room (k % n)) (sym (get_or-drop n slices k []))
      (subst (λ (i : ℕ). length (get_or slices (n + k) []) ≤ room i) (add-mod_left n k) here);
}

-- slices whose rooms repeat
runs_most : (n most : ℕ) (room : ℕ → ℕ) → AreMost n room most → (rows : ℕ) → AreMost (rows * n) (λ k. room (k % n)) (rows * most)
unfolding AreMost
runs_most n most room one zero [] are = omega arith
runs_most n most room one zero (slice ∷ slices) are = absurd (omega (arith, are.counted))
runs_most n most room one (suc rows) slices are =
    omega (
      arith,
      joined_len n slices,
      one (take n slices) (first_run rows n room slices are),
      runs_most n most room one rows (drop n slices) (other_runs rows n room slices are),
    )

-- the slices of a coded picture
picture_most : (rows : ℕ) (widths : List ℕ)
    → AreMost (rows * length widths) (λ k. room_for (get_or widths (k % length widths) 0)) (rows * (4096 * sum widths + 8 * length widths))
unfolding AreMost
picture_most rows widths =
    runs_most (length widths) (4096 * sum widths + 8 * length widths) (λ k. room_for (get_or widths k 0)) (row_most widths) rows

-- each slice of a frame has the room of its macroblocks
slices_within : (fields : Fields) (source : Planes) (slices : List (List ℕ)) → IsInRange fields → AreCodedSlices fields source slices
    → let size = size_of fields in let widths = row_widths size fields.log2 in
    AreWithin (slice_total size fields.log2) (λ k. room_for (get_or widths (k % slices_per_picture size fields.log2 % length widths) 0)) slices
slices_within fields source slices ranges coded = record {
  counted = coded.counted;
  each = λ index lt.
      let size = size_of fields in
      let per : ℕ = slices_per_picture size fields.log2 in
      let there : index < length slices = subst (λ (k : ℕ). index < k) (sym coded.counted) lt in
      let found = slice_of_number size fields.log2 index lt in
      let few = few_macroblocks size fields.log2 (index / per) (index % per) found.0 ranges.log2 found.1 in
      let cut = coded.each index found.0 there found.1 in
      let most = coded_slice_len fields found.0.count cut.samples (get_or slices index []) few ranges.qmin.least ranges.qmax.most
      (slice_samples_are cut.samples found.0.count few cut.whole) cut.coded in
      subst (λ (count : ℕ). length (get_or slices index []) ≤ room_for count) found.1.count most;
}

-- the slices of a frame have no more bytes than all its macroblocks may have
joined_most : (fields : Fields) (source : Planes) (slices : List (List ℕ)) → IsInRange fields → AreCodedSlices fields source slices
    → let size = size_of fields in
    length (joined slices) ≤ picture_count size * (row_count size * (4096 * macroblocks size.width + 8 * length (row_widths size fields.log2)))
unfolding AreMost
joined_most fields source slices ranges coded =
    let size = size_of fields in
    let widths = row_widths size fields.log2 in
    let per : ℕ = slices_per_picture size fields.log2 in
    let most : ℕ = row_count size * (4096 * sum widths + 8 * length widths) in
    let all = runs_most per most (λ k. room_for (get_or widths (k % length widths) 0)) (picture_most (row_count size) widths)
    (picture_count size) slices (slices_within fields source slices ranges coded) in
    subst (λ (m : ℕ). length (joined slices) ≤ picture_count size * (row_count size * (4096 * m + 8 * length widths)))
    (sum-widths fields.log2 (macroblocks size.width)) all

-- the room of a frame, from that of its slices
room_sum : (one : Bool) (rows m n : ℕ)
    → 8 * (if one then 1 else 2) + 2 * ((if one then 1 else 2) * (rows * n)) + (if one then 1 else 2) * (rows * (4096 * m + 8 * n))
    ≡ (if one then 1 else 2) * (8 + 10 * (rows * n) + 4096 * (rows * m))
room_sum true rows m n = omega arith
room_sum false rows m n = omega arith

-- a coded frame has no more bytes than its room
pub coded_frame_fits : (fields : Fields) (source : Planes) (bytes : List ℕ) → IsInRange fields → IsCodedFrame fields source bytes
    → (28 ≤ length bytes) × (length bytes ≤ frame_room_of fields)
coded_frame_fits fields source bytes ranges coded =
    let size = size_of fields in
    let setup = coded.setup in
    let is = coded.of_configuration in
    let head : FrameHead = head_of fields setup.luma setup.chroma in
    let len : length bytes ≡ length (frame_bytes head fields.log2 coded.slices) = ap length coded.joined in
    let parts = frame_len head fields.log2 coded.slices ranges.encoder is.luma_long is.chroma_long in
    let most = joined_most fields source coded.slices ranges coded.coded in
    let room = room_sum (size.interlace == 0) (row_count size) (macroblocks size.width) (length (row_widths size fields.log2)) in
    (omega (arith, len, parts), omega (arith, len, parts, most, room, coded.coded.counted))

room_is : (one : Bool) (s m : ℕ) → (if one then 1 else 2) * (8 + 10 * s + 4096 * m)
    ≡ 8 * (if one then 1 else 2) + 10 * ((if one then 1 else 2) * s) + 4096 * ((if one then 1 else 2) * m)
room_is true s m = omega arith
room_is false s m = omega arith

-- the room of a frame
room_most : (fields : Fields) → IsInRange fields → frame_room_of fields ≤ 2 ^ 28
room_most fields ranges =
    let size = size_of fields in
    let one : Bool = size.interlace == 0 in
    let narrow : macroblocks size.width ≤ 256 = omega (arith, ranges.width.most) in
    let few = few_slices one size.height (macroblocks size.width) ranges.height.most narrow in
    let slices = slices_are_few size fields.log2 ranges.width.most ranges.height.most in
    omega (
      arith,
      few,
      slices,
      few_pictures one,
      least_head_most (fields.weights == 1) (fields.weights == 1),
      room_is one (slices_per_picture size fields.log2) (row_count size * macroblocks size.width),
    )

-- coded frames are short
pub coded_frames_are_short : (fields : Fields) (source : Planes) (bytes : List ℕ) → IsSource fields source → IsCodedFrame fields source bytes
    → (1 ≤ length bytes) × (length bytes ≤ 2 ^ 28)
coded_frames_are_short fields source bytes is coded =
    let fits = coded_frame_fits fields source bytes is.ranges coded in
    (omega (arith, fits.0), omega (arith, fits.1, room_most fields is.ranges))
