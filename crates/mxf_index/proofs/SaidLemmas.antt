-- An item that says something of frames is a segment.
use Rattle.std.proofs.Common.{◌≡◌, ◌≤◌, ◌<◌, ◌^◌, ℕ, ◌+◌, ◌*◌, ◌==◌, true, false, Bool, List, [], ◌++◌, Option, Some, None, length, drop}
use Rattle.std.proofs.Common.{refl, sym, ap, subst, ◌∙◌, arith, append-nil, if◌then◌else◌}
use Rattle.std.proofs.lemmas.Bool.{eqb-true, ltb-true}
use Rattle.std.proofs.lemmas.List.{drop_all}
use Rattle.std.proofs.lemmas.List.FromFn.{length-map-range_with_len}
use Rattle.std.specs.Option.{option_map}
use Rattle.byteorder.specs.Endian.{big_number}
use Rattle.byteorder.specs.Numbers.{big_from-lt, big_from-take}
use Rattle.rec_bytes.specs.laws.Bytes.{AreBytes, left_bytes}
use Rattle.klv.specs.Items.{Item}
use Rattle.local_sets.specs.Sets.{set_value}
use Rattle.mxf_index.specs.Dues.{due_items, end_fault, first_fault, may_be, opening_dues, size_of}
use Rattle.mxf_index.specs.Reads.{AreFrames, Frames, count_in, first_fall, frames_in, frames_of, segment_saying, stream_in, value_fault}
use Rattle.mxf_index.specs.Segments.{IsSegment, segment_value}
use Rattle.mxf_index.specs.declared.fault.SegmentFault.TheVariants.{EntryOrder, SegmentField}
use Rattle.mxf_index.specs.inner.Items.{dues_len}
use Rattle.mxf_index.proofs.ConverseLemmas.{fit, rise}
use Rattle.mxf_index.proofs.ExactLemmas.{told}
use Rattle.mxf_index.proofs.FoundLemmas.{AreThere, are_there, raw_in, raws_in, spelled_all}
use Rattle.mxf_index.proofs.ReadBackLemmas.{all_len, value_items}
use Rattle.mxf_index.proofs.DueLemmas.{neither}
use Rattle.mxf_index.proofs.SegmentIsLemmas.{items_are, rate_in}

-- a test that no fault came of
is_end : (b : Bool) (end : ℕ) → (if b then None else Some (SegmentField end 0)) ≡ None → b ≡ true
is_end true end e = refl
is_end false end e = absurd (cc)

-- nothing is behind the items
no_more : (bytes : List ℕ) (end : ℕ) → end_fault bytes end ≡ None → length bytes ≡ end
no_more bytes end e = eqb-true (length bytes) end (is_end (length bytes == end) end e)

-- no offset falls
no_fall : (x : Option ℕ) → option_map EntryOrder x ≡ None → x ≡ None
no_fall None e = refl
no_fall (Some k) e = absurd (cc)

-- what a value keeps that breaks no rule
pub record Keeps (bytes : List ℕ) : Type 0 where
  pub there : AreThere bytes 0 (due_items (count_in bytes))
  pub long : length bytes ≡ 120 + 11 * count_in bytes
  pub order : first_fall (frames_in bytes).streams ≡ None

keeps : (bytes : List ℕ) → value_fault bytes ≡ None → Keeps bytes
unfolding value_fault
keeps bytes e =
    let one = neither (first_fault bytes 0 (due_items (count_in bytes))) _ e in
    let two = neither (end_fault bytes (120 + 11 * count_in bytes)) _ one.1 in
    record {
      there = are_there bytes 0 (due_items (count_in bytes)) one.0;
      long = no_more bytes (120 + 11 * count_in bytes) two.0;
      order = no_fall (first_fall (frames_in bytes).streams) two.1;
    }

-- it is its items
is_items : (bytes : List ℕ) → AreBytes bytes → Keeps bytes → bytes ≡ set_value (raws_in bytes 0 (due_items (count_in bytes)))
is_items bytes are k =
    let n : ℕ = count_in bytes in
    let none : drop (0 + dues_len (due_items n)) bytes ≡ [] = drop_all (0 + dues_len (due_items n)) bytes (omega (arith, k.long, all_len n)) in
    spelled_all bytes 0 (due_items n) are k.there
    ∙ ap (λ (xs : List ℕ). set_value (raws_in bytes 0 (due_items n)) ++ xs) none
    ∙ append-nil (set_value (raws_in bytes 0 (due_items n)))

-- so it is a segment's
is_segment : (bytes : List ℕ) → AreBytes bytes → Keeps bytes → bytes ≡ segment_value (segment_saying (raw_in bytes 0).value (rate_in bytes) (frames_in bytes))
is_segment bytes are k =
    is_items bytes are k
    ∙ ap set_value (items_are bytes are k.there)
    ∙ sym (value_items (raw_in bytes 0).value (rate_in bytes) (frames_in bytes))

-- its identifier has 16 bytes
id_long : (bytes : List ℕ) → AreThere bytes 0 (due_items (count_in bytes)) → length (raw_in bytes 0).value ≡ 16
unfolding opening_dues size_of
id_long bytes t = t.0.size

-- its first frame is below 2^63
first_small : (bytes : List ℕ) → AreThere bytes 0 (due_items (count_in bytes)) → (frames_in bytes).first < 2 ^ 63
unfolding opening_dues size_of may_be
first_small bytes t =
    let p = t.1.1.0 in
    let stated = p.stated in
    let same = big_from-take 0 8 (big_number 2 (drop 34 bytes)) (drop 36 bytes) (omega (arith, stated)) in
    let small = ltb-true (big_number 8 (raw_in bytes 32).value) (2 ^ 63) p.may in
    omega (arith, same, small)

-- and its frames are few
frames_few : (bytes : List ℕ) → AreBytes bytes → AreThere bytes 0 (due_items (count_in bytes)) → count_in bytes ≤ 5957
unfolding opening_dues size_of
frames_few bytes are t =
    let e = t.1.1.1.1.1.1.1.1.1.0 in
    let stated = e.stated in
    let small : big_number 2 (drop 105 bytes) < 256 ^ 2 = big_from-lt 0 2 (drop 105 bytes) (left_bytes 105 bytes are) in
    omega (arith, stated, small)

-- what it says has room in a segment
are_frames : (bytes : List ℕ) → AreBytes bytes → Keeps bytes → AreFrames (frames_in bytes)
are_frames bytes are k =
    let n : ℕ = count_in bytes in
    let few = frames_few bytes are k.there in
    record {
      number = first_small bytes k.there;
      few = omega (arith, few, length-map-range_with_len (stream_in bytes) 0 n);
      fit = fit (stream_in bytes) (λ m. big_from-lt 0 8 (drop (115 + 11 * m + 3) bytes) (left_bytes (115 + 11 * m + 3) bytes are)) 0 n;
      rise = rise (frames_in bytes).streams k.order;
    }

-- of frames that are told by another name
of_frames : (item : Item) (id : List ℕ) (rate : ℕ × ℕ) (frames : Frames) → length id ≡ 16 → AreFrames frames → IsSegment item (segment_saying id rate frames)
    → (id : List ℕ) × (rate : ℕ × ℕ) × (length id ≡ 16) × AreFrames frames × IsSegment item (segment_saying id rate frames)
of_frames item id rate frames long f is = (id, rate, long, f, is)

-- an item that says something of frames is a segment
pub said : (item : Item) (frames : Frames) → AreBytes item.value → frames_of item ≡ Some frames
    → (id : List ℕ) × (rate : ℕ × ℕ) × (length id ≡ 16) × AreFrames frames × IsSegment item (segment_saying id rate frames)
said item frames are e =
    let t = told item frames e in
    let bytes : List ℕ = item.value in
    let k = keeps bytes t.1 in
    let id : List ℕ = (raw_in bytes 0).value in
    let rate : ℕ × ℕ = rate_in bytes in
    of_frames item id rate frames (id_long bytes k.there) (subst AreFrames t.2 (are_frames bytes are k))
    (subst (λ (f : Frames). IsSegment item (segment_saying id rate f)) t.2 (record { key = t.0; value = is_segment bytes are k }))

-- its value has 120 bytes, and 11 for each frame
pub sized : (item : Item) (frames : Frames) → frames_of item ≡ Some frames → length item.value ≡ 120 + 11 * length frames.streams
sized item frames e =
    let t = told item frames e in
    let k = keeps item.value t.1 in
    let count : length (frames_in item.value).streams ≡ count_in item.value =
    length-map-range_with_len (stream_in item.value) 0 (count_in item.value) in
    omega (arith, k.long, count, ap (λ (f : Frames). length f.streams) t.2)

-- and no more than 5,957 frames
pub longest : (item : Item) (frames : Frames) → AreBytes item.value → frames_of item ≡ Some frames → length item.value ≤ 65647
longest item frames are e =
    let f = said item frames are e in
    let few = f.3.few in
    omega (arith, few, sized item frames e)
