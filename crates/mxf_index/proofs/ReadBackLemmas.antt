-- What a segment says that is spelled.
use Rattle.std.proofs.Common.{◌≡◌, ◌≤◌, ◌<◌, ◌^◌, ℕ, zero, suc, ◌+◌, ◌*◌, ◌&&◌, nat_lt, true, List, [], ◌∷◌, ◌++◌, Some, None, is_none, length, map}
use Rattle.std.proofs.Common.{drop, get_or}
use Rattle.std.proofs.Common.{refl, sym, ap, ap₂, ◌∙◌, arith, append_assoc, append-nil}
use Rattle.std.proofs.lemmas.Bool.{eq-eqb, lt-ltb}
use Rattle.std.proofs.lemmas.Grind.{flat_map-append}
use Rattle.std.proofs.lemmas.List.FromFn.{fill_by_all}
use Rattle.std.proofs.lemmas.List.{drop-drop}
use Rattle.std.proofs.lemmas.Slice.Eq.{bytes_eq-Decides}
use Rattle.std.specs.List.{AllByRecursion, range_with_len}
use Rattle.std.specs.Option.{option_or, option_map}
use Rattle.std.specs.Str.{bytes_eq}
use Rattle.byteorder.specs.Endian.{big_bytes, big_number}
use Rattle.byteorder.specs.Numbers.{big_number-reads_back}
use Rattle.klv.specs.Items.{Item}
use Rattle.local_sets.specs.Sets.{RawItem, items_bytes, raw, raw_bytes, set_value}
use Rattle.mxf_names.specs.declared.keys.TheConstants.{INDEX_SEGMENT_KEY}
use Rattle.mxf_index.specs.declared.tags.TheConstants.{DELTA_ENTRIES, DELTA_SIZE}
use Rattle.mxf_index.specs.Segments.{IsSegment, array_item, closing_items, delta_array, delta_bytes, delta_of_picture, entry_array, opening_items}
use Rattle.mxf_index.specs.Segments.{segment_value}
use Rattle.mxf_index.specs.Dues.{due_items, end_fault, first_fault, is_due, item_at, may_be, opening_dues, size_of, due}
use Rattle.mxf_index.specs.Reads.{AreFrames, Frames, count_in, first_fall, frames_in, frames_of, segment_saying, stream_in, value_fault}
use Rattle.mxf_index.specs.inner.Items.{closing_due, dues_len, entries_due}
use Rattle.mxf_index.specs.declared.fault.SegmentFault.TheVariants.{EntryOrder}
use Rattle.mxf_index.specs.declared.due.Holds.TheVariants.{Position}
use Rattle.mxf_index.specs.declared.tags.TheConstants.{INDEX_DURATION, INDEX_START_POSITION}
use Rattle.mxf_index.proofs.DueLemmas.{dues_len-append, end_right, opening_len}
use Rattle.mxf_index.proofs.EntriesLemmas.{entries_are_due, entries_held, entries_item, held_entry, held_is, held_len, none_falls}
use Rattle.mxf_index.proofs.StandLemmas.{AreDue, StandDue, due_bytes, none_wrong, number_held, stand}

-- the items of a segment that says this of frames
abbrev pub items_of : List ℕ → ℕ × ℕ → Frames → List RawItem
items_of id rate frames =
    map raw (opening_items (segment_saying id rate frames))
    ++ array_item DELTA_ENTRIES DELTA_SIZE (map delta_bytes (delta_of_picture ∷ [])) ∷ entries_item frames.streams ∷ map raw closing_items

-- four parts, one after the other
four : (a b c d : List ℕ) → a ++ b ++ c ++ d ≡ a ++ (b ++ (c ++ d))
four a b c d = simp append_assoc

-- they are its value
pub value_items : (id : List ℕ) (rate : ℕ × ℕ) (frames : Frames) → segment_value (segment_saying id rate frames) ≡ set_value (items_of id rate frames)
value_items id rate frames =
    let s = segment_saying id rate frames in
    let rest : List RawItem = array_item DELTA_ENTRIES DELTA_SIZE (map delta_bytes (delta_of_picture ∷ [])) ∷ entries_item frames.streams ∷ map raw
    closing_items in
    four (items_bytes (opening_items s)) (delta_array s.deltas) (entry_array s.entries) (items_bytes closing_items)
    ∙ sym (flat_map-append raw_bytes (map raw (opening_items s)) rest)

-- a first frame that is due
position : (first : ℕ) → first < 2 ^ 63 → is_due (due INDEX_START_POSITION Position) (record { tag = INDEX_START_POSITION; value = big_bytes 8 first }) ≡ true
unfolding size_of may_be
position first small =
    let number : big_number 8 (big_bytes 8 first) ≡ first =
    ap (big_number 8) (sym (append-nil (big_bytes 8 first))) ∙ big_number-reads_back 8 first [] (omega arith) in
    ap (λ (n : ℕ). nat_lt n (2 ^ 63)) number ∙ lt-ltb first (2 ^ 63) small

-- its items are those that are due
pub items_are_due : (id : List ℕ) (rate : ℕ × ℕ) (frames : Frames) → length id ≡ 16 → AreFrames frames
    → AreDue (due_items (length frames.streams)) (items_of id rate frames)
unfolding opening_dues size_of may_be
items_are_due id rate frames long f =
    let entries_size = held_len frames.streams in
    let few = f.few in (
      rw (eq-eqb (length id) 16 long) refl,
      record { tag = omega arith; fits = omega (arith, long) },
      (
        refl,
        record { tag = omega arith; fits = omega arith },
        (
          position frames.first f.number,
          record { tag = omega arith; fits = omega arith },
          (
            refl,
            record { tag = omega arith; fits = omega arith },
            (
              refl,
              record { tag = omega arith; fits = omega arith },
              (
                refl,
                record { tag = omega arith; fits = omega arith },
                (
                  refl,
                  record { tag = omega arith; fits = omega arith },
                  (
                    refl,
                    record { tag = omega arith; fits = omega arith },
                    (
                      refl,
                      record { tag = omega arith; fits = omega arith },
                      (
                        entries_are_due frames.streams few,
                        record { tag = omega arith; fits = omega (arith, ap length (held_is frames.streams), entries_size) },
                        (refl, record { tag = omega arith; fits = omega arith }, tt),
                      ),
                    ),
                  ),
                ),
              ),
            ),
          ),
        ),
      ),
    )

-- they stand in the value
pub items_stand : (value id : List ℕ) (rate : ℕ × ℕ) (frames : Frames) → length id ≡ 16 → AreFrames frames
    → value ≡ segment_value (segment_saying id rate frames)
    → StandDue value 0 (due_items (length frames.streams)) (items_of id rate frames)
items_stand value id rate frames long f is =
    let items = items_of id rate frames in
    stand value [] 0 (due_items (length frames.streams)) items (items_are_due id rate frames long f)
    (is ∙ value_items id rate frames ∙ sym (append-nil (set_value items)))

-- the first frame that the value states
first_stated : (value id : List ℕ) (rate : ℕ × ℕ) (frames : Frames) → AreFrames frames
    → StandDue value 0 (due_items (length frames.streams)) (items_of id rate frames) → big_number 8 (drop 36 value) ≡ frames.first
unfolding opening_dues size_of
first_stated value id rate frames f there =
    let small = f.number in
    number_held value 32 8 0 (record { tag = INDEX_START_POSITION; value = big_bytes 8 frames.first }) there.1.1.0 (omega arith)
    ∙ ap (big_number 8) (sym (append-nil (big_bytes 8 frames.first)))
    ∙ big_number-reads_back 8 frames.first [] (omega arith)

-- the number of frames
count_stated : (value id : List ℕ) (rate : ℕ × ℕ) (frames : Frames) → AreFrames frames
    → StandDue value 0 (due_items (length frames.streams)) (items_of id rate frames) → count_in value ≡ length frames.streams
unfolding opening_dues size_of
count_stated value id rate frames f there =
    let few = f.few in
    let n : ℕ = length frames.streams in
    number_held value 44 8 0 (record { tag = INDEX_DURATION; value = big_bytes 8 n }) there.1.1.1.0 (omega arith)
    ∙ ap (big_number 8) (sym (append-nil (big_bytes 8 n)))
    ∙ big_number-reads_back 8 n [] (omega arith)

-- the array of the entries
array_stands : (value id : List ℕ) (rate : ℕ × ℕ) (frames : Frames)
    → StandDue value 0 (due_items (length frames.streams)) (items_of id rate frames) → item_at value 103 ≡ Some (entries_item frames.streams)
unfolding opening_dues size_of
array_stands value id rate frames there = there.1.1.1.1.1.1.1.1.1.0

-- a number of a list in which all are small
small_at : (xs : List ℕ) (n k : ℕ) → AllByRecursion (λ x. x < n) xs → k < length xs → get_or xs k 0 < n
small_at [] n k h less = absurd (omega arith)
small_at (x ∷ xs) n zero h less = h.0
small_at (x ∷ xs) n (suc k) h less = small_at xs n k h.1 (omega arith)

-- the offset of a frame
stream_stated : (value streams : List ℕ) (k : ℕ) → item_at value 103 ≡ Some (entries_item streams) → k < length streams → get_or streams k 0 < 2 ^ 64
    → get_or streams k 0 ≡ stream_in value k
stream_stated value streams k there less small =
    let held : List ℕ = entries_held streams in
    let stream : ℕ = get_or streams k 0 in
    let same = held_is streams in
    let long = held_len streams in
    let more = held_entry streams k less in
    let m : ℕ = 8 + 11 * k + 3 in
    let room : m + 8 ≤ length (entries_item streams).value = omega (arith, ap length same, long) in
    let place : 103 + 4 + m ≡ 115 + 11 * k + 3 = omega arith in
    sym (
    ap (λ (n : ℕ). big_number 8 (drop n value)) (sym place)
    ∙ number_held value 103 8 m (entries_item streams) there room
    ∙ ap (λ (xs : List ℕ). big_number 8 (drop m xs)) same
    ∙ ap (big_number 8) (sym (drop-drop 3 (8 + 11 * k) held) ∙ ap (drop 3) more.1)
    ∙ big_number-reads_back 8 stream more.0 (omega arith)
    )

-- what the value says of frames
frames_stated : (value id : List ℕ) (rate : ℕ × ℕ) (frames : Frames) → AreFrames frames
    → StandDue value 0 (due_items (length frames.streams)) (items_of id rate frames) → frames_in value ≡ frames
frames_stated value id rate frames f there =
    let streams : List ℕ = frames.streams in
    let count = count_stated value id rate frames f there in
    let first = first_stated value id rate frames f there in
    let array = array_stands value id rate frames there in
    let all : streams ≡ map (stream_in value) (range_with_len 0 (length streams)) =
    fill_by_all (stream_in value) streams (length streams) 0 refl
    (λ k less. stream_stated value streams k array less (small_at streams (2 ^ 64) k f.fit less)) in
    let same : map (stream_in value) (range_with_len 0 (count_in value)) ≡ streams =
    ap (λ (n : ℕ). map (stream_in value) (range_with_len 0 n)) count ∙ sym all in
    λ i. record { first = first i; streams = same i }

-- all items have their bytes
pub all_len : (count : ℕ) → dues_len (due_items count) ≡ 120 + 11 * count
unfolding dues_len size_of
all_len count =
    omega (arith, dues_len-append opening_dues (entries_due count ∷ closing_due ∷ []), opening_len)

-- the value breaks no rule
pub breaks_none : (value id : List ℕ) (rate : ℕ × ℕ) (frames : Frames) → length id ≡ 16 → AreFrames frames
    → value ≡ segment_value (segment_saying id rate frames)
    → (value_fault value ≡ None) × (frames_in value ≡ frames)
unfolding value_fault
breaks_none value id rate frames long f is =
    let items = items_of id rate frames in
    let n : ℕ = length frames.streams in
    let are = items_are_due id rate frames long f in
    let there = items_stand value id rate frames long f is in
    let said = frames_stated value id rate frames f there in
    let count : count_in value ≡ n = count_stated value id rate frames f there in
    let none : first_fault value 0 (due_items (count_in value)) ≡ None =
    ap (λ (m : ℕ). first_fault value 0 (due_items m)) count ∙ none_wrong value 0 (due_items n) items are there in
    let len : length value ≡ 120 + 11 * count_in value =
    omega (arith, ap length is, ap length (value_items id rate frames), due_bytes (due_items n) items are, all_len n, count) in
    let end : end_fault value (120 + 11 * count_in value) ≡ None = end_right value (120 + 11 * count_in value) len in
    let order : option_map EntryOrder (first_fall (frames_in value).streams) ≡ None =
    ap (λ (s : Frames). option_map EntryOrder (first_fall s.streams)) said ∙ ap (option_map EntryOrder) (none_falls frames.streams f.rise) in (
      ap₂ option_or none (ap₂ option_or end order),
      said,
    )

-- so its item says this
pub says_back : (item : Item) (id : List ℕ) (rate : ℕ × ℕ) (frames : Frames) → length id ≡ 16 → AreFrames frames
    → IsSegment item (segment_saying id rate frames)
    → frames_of item ≡ Some frames
unfolding frames_of
says_back item id rate frames long f is =
    let told = breaks_none item.value id rate frames long f is.value in
    let key : bytes_eq item.key INDEX_SEGMENT_KEY ≡ true = (bytes_eq-Decides item.key INDEX_SEGMENT_KEY).1 is.key in
    let test : (bytes_eq item.key INDEX_SEGMENT_KEY && is_none (value_fault item.value)) ≡ true = rw (key, told.0) refl in
    rw test (ap Some told.1)
