-- The segment that a value is which breaks no rule.
use Rattle.std.proofs.Common.{◌≡◌, ◌<◌, ℕ, ◌+◌, ◌*◌, ◌==◌, List, [], ◌∷◌, length, map, drop}
use Rattle.std.proofs.Common.{refl, sym, ap, ◌∙◌, arith}
use Rattle.std.proofs.lemmas.Bool.{eqb-true}
use Rattle.std.proofs.lemmas.List.FromFn.{length-map-range_with_len}
use Rattle.std.specs.List.{range_with_len, list_all}
use Rattle.byteorder.specs.Endian.{big_bytes, big_number}
use Rattle.byteorder.specs.Numbers.{big_from-take}
use Rattle.rec_bytes.specs.laws.Bytes.{AreBytes}
use Rattle.local_sets.specs.Sets.{item, raw}
use Rattle.local_sets.specs.declared.value.Value.TheVariants as value
use Rattle.mxf_index.specs.Dues.{due, due_items, is_array, is_frame_entry, may_be, opening_dues, size_of}
use Rattle.mxf_index.specs.Reads.{count_in, frames_in, stream_in}
use Rattle.mxf_index.specs.Segments.{array_item, delta_bytes, delta_of_picture}
use Rattle.mxf_names.specs.declared.streams.TheConstants.{INDEX_STREAM, ESSENCE_STREAM}
use Rattle.mxf_names.specs.declared.tags.TheConstants.{INSTANCE_ID, INDEX_SID, BODY_SID}
use Rattle.mxf_index.specs.declared.tags.TheConstants.{INDEX_EDIT_RATE, INDEX_START_POSITION, INDEX_DURATION, EDIT_UNIT_BYTE_COUNT, SLICE_COUNT}
use Rattle.mxf_index.specs.declared.tags.TheConstants.{DELTA_ENTRIES, DELTA_SIZE, INDEX_ENTRIES, POS_TABLE_COUNT}
use Rattle.mxf_index.specs.declared.due.Holds.TheVariants.{Bytes, Byte, Word, OneDelta, Entries}
use Rattle.mxf_index.proofs.ConverseLemmas.{array_is, three_parts, two_words}
use Rattle.mxf_index.proofs.EntriesLemmas.{entries_item, held_is}
use Rattle.mxf_index.proofs.FoundLemmas.{AreThere, IsThere, held_bytes, raw_in, raws_in}
use Rattle.mxf_index.proofs.NumberLemmas.{bytes_of}
use Rattle.mxf_index.proofs.ReadBackLemmas.{items_of}
use Rattle.mxf_index.proofs.StandLemmas.{each_holds, number_held}

-- an item by its tag and its value
raw_is : (bytes : List ℕ) (at tag : ℕ) (held : List ℕ) → (raw_in bytes at).tag ≡ tag → (raw_in bytes at).value ≡ held
    → raw_in bytes at ≡ record { tag = tag; value = held }
raw_is bytes at tag held t h = λ i. record { tag = t i; value = h i }

-- an item of four bytes
word : (bytes : List ℕ) (at tag x : ℕ) → AreBytes bytes → IsThere bytes at (due tag (Word x)) → raw_in bytes at ≡ raw (item tag (value.Word x))
unfolding may_be size_of
word bytes at tag x are t =
    raw_is bytes at tag (big_bytes 4 x) t.tag
    (bytes_of 4 x (raw_in bytes at).value t.size (held_bytes bytes at are) (eqb-true (big_number 4 (raw_in bytes at).value) x t.may))

-- an item of one byte
byte : (bytes : List ℕ) (at tag x : ℕ) → AreBytes bytes → IsThere bytes at (due tag (Byte x)) → raw_in bytes at ≡ raw (item tag (value.Byte x))
unfolding may_be size_of
byte bytes at tag x are t =
    raw_is bytes at tag (big_bytes 1 x) t.tag
    (bytes_of 1 x (raw_in bytes at).value t.size (held_bytes bytes at are) (eqb-true (big_number 1 (raw_in bytes at).value) x t.may))

-- an item of eight bytes, by the number at its place
long : (bytes : List ℕ) (at tag : ℕ) → AreBytes bytes → (raw_in bytes at).tag ≡ tag → length (raw_in bytes at).value ≡ 8
    → big_number 2 (drop (at + 2) bytes) ≡ 8
    → raw_in bytes at ≡ raw (item tag (value.Long (big_number 8 (drop (at + 4) bytes))))
long bytes at tag are t size stated =
    raw_is bytes at tag (big_bytes 8 (big_number 8 (drop (at + 4) bytes))) t
    (bytes_of 8 (big_number 8 (drop (at + 4) bytes)) (raw_in bytes at).value size (held_bytes bytes at are)
    (big_from-take 0 8 (big_number 2 (drop (at + 2) bytes)) (drop (at + 4) bytes) (omega (arith, stated))))

-- the rate
pub rate_in : List ℕ → ℕ × ℕ
rate_in bytes = (big_number 4 (raw_in bytes 20).value, big_number 4 (drop 4 (raw_in bytes 20).value))

ratio : (bytes : List ℕ) (tag : ℕ) → AreBytes bytes → IsThere bytes 20 (due tag (Bytes 8))
    → raw_in bytes 20 ≡ raw (item tag (value.Ratio (rate_in bytes).0 (rate_in bytes).1))
unfolding size_of rate_in
ratio bytes tag are t = raw_is bytes 20 tag _ t.tag (two_words (raw_in bytes 20).value t.size (held_bytes bytes 20 are))

-- the array of the delta entry
delta : (bytes : List ℕ) (at : ℕ) → AreBytes bytes → IsThere bytes at (due DELTA_ENTRIES OneDelta)
    → raw_in bytes at ≡ array_item DELTA_ENTRIES DELTA_SIZE (map delta_bytes (delta_of_picture ∷ []))
unfolding may_be size_of
delta bytes at are t =
    let v = (raw_in bytes at).value in
    let one = each_holds (is_array 1 6 v) (big_number 6 (drop 8 v) == 0) t.may in
    let two = each_holds (big_number 4 v == 1) (big_number 4 (drop 4 v) == 6) one.0 in
    raw_is bytes at DELTA_ENTRIES _ t.tag
    (three_parts 4 1 4 6 6 0 v t.size (held_bytes bytes at are) (eqb-true (big_number 4 v) 1 two.0) (eqb-true (big_number 4 (drop 4 v)) 6 two.1)
    (eqb-true (big_number 6 (drop 8 v)) 0 one.1))

-- the array of the entries
entries : (bytes : List ℕ) (n : ℕ) → AreBytes bytes → IsThere bytes 103 (due INDEX_ENTRIES (Entries n))
    → raw_in bytes 103 ≡ entries_item (map (stream_in bytes) (range_with_len 0 n))
unfolding may_be size_of
entries bytes n are t =
    let v = (raw_in bytes 103).value in
    let one = each_holds (is_array n 11 v) (list_all (is_frame_entry v) (range_with_len 0 n)) t.may in
    let two = each_holds (big_number 4 v == n) (big_number 4 (drop 4 v) == 11) one.0 in
    let size = t.size in
    let streams : (k : ℕ) → k < n → big_number 8 (drop (8 + 11 * k + 3) v) ≡ stream_in bytes k =
    λ k less.
    sym (number_held bytes 103 8 (8 + 11 * k + 3) (raw_in bytes 103) t.found (omega (arith, size)))
    ∙ ap (λ (m : ℕ). big_number 8 (drop m bytes)) (omega arith) in
    raw_is bytes 103 INDEX_ENTRIES _ t.tag
    (array_is v (stream_in bytes) n size (held_bytes bytes 103 are) (eqb-true (big_number 4 v) n two.0) (eqb-true (big_number 4 (drop 4 v)) 11 two.1)
    one.1 streams
    ∙ sym (held_is (map (stream_in bytes) (range_with_len 0 n))))

-- the items that are there are those of a segment
pub items_are : (bytes : List ℕ) → AreBytes bytes → AreThere bytes 0 (due_items (count_in bytes))
    → raws_in bytes 0 (due_items (count_in bytes)) ≡ items_of (raw_in bytes 0).value (rate_in bytes) (frames_in bytes)
unfolding opening_dues may_be size_of
items_are bytes are t =
    let n : ℕ = count_in bytes in
    let t2 = t.1.1 in
    let t4 = t2.1.1 in
    let t8 = t4.1.1.1.1 in
    let count : n ≡ length (frames_in bytes).streams = sym (length-map-range_with_len (stream_in bytes) 0 n) in
    let e0 = raw_is bytes 0 INSTANCE_ID (raw_in bytes 0).value t.0.tag refl in
    let e1 = ratio bytes INDEX_EDIT_RATE are t.1.0 in
    let e2 = long bytes 32 INDEX_START_POSITION are t2.0.tag t2.0.size t2.0.stated in
    let e3 = long bytes 44 INDEX_DURATION are t2.1.0.tag t2.1.0.size t2.1.0.stated
    ∙ ap (λ (m : ℕ). raw (item INDEX_DURATION (value.Long m))) count in
    let e4 = word bytes 56 EDIT_UNIT_BYTE_COUNT 0 are t4.0 in
    let e5 = word bytes 64 INDEX_SID INDEX_STREAM are t4.1.0 in
    let e6 = word bytes 72 BODY_SID ESSENCE_STREAM are t4.1.1.0 in
    let e7 = byte bytes 80 SLICE_COUNT 0 are t4.1.1.1.0 in
    let e8 = delta bytes 85 are t8.0 in
    let e9 = entries bytes n are t8.1.0 in
    let e10 = byte bytes (103 + 4 + (8 + 11 * n)) POS_TABLE_COUNT 0 are t8.1.1.0 in
    λ i. e0 i ∷ e1 i ∷ e2 i ∷ e3 i ∷ e4 i ∷ e5 i ∷ e6 i ∷ e7 i ∷ e8 i ∷ e9 i ∷ e10 i ∷ []
