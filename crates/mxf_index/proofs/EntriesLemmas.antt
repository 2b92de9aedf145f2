-- The array of the entries of frames.
use Rattle.std.proofs.Common.{◌≡◌, ◌≤◌, ◌<◌, ℕ, zero, suc, ◌+◌, ◌*◌, ◌-◌, ◌&&◌, ◌==◌, nat_lt, nat_le, Bool, true, false, List, [], ◌∷◌, ◌++◌, None}
use Rattle.std.proofs.Common.{length, map, drop, slice_index, get_or}
use Rattle.std.proofs.Common.{refl, sym, ap, ap₂, ◌∙◌, arith}
use Rattle.std.proofs.lemmas.Bool.{eq-eqb, lt-leb, lt-ltb}
use Rattle.std.proofs.lemmas.List.{drop_at, drop-drop, length-map}
use Rattle.std.specs.List.{flat_map, range_with_len, list_all, find}
use Rattle.byteorder.specs.Endian.{big_bytes, big_number}
use Rattle.byteorder.specs.Numbers.{big_number-reads_back}
use Rattle.local_sets.specs.Sets.{RawItem}
use Rattle.mxf_index.specs.declared.tags.TheConstants.{INDEX_ENTRIES, ENTRY_SIZE}
use Rattle.mxf_index.specs.Segments.{array_item, entry_bytes, entry_of_frame, frame_bytes, joined}
use Rattle.mxf_index.specs.Dues.{is_due, is_frame_entry, may_be, size_of}
use Rattle.mxf_index.specs.Reads.{AreRising, falls, first_fall}
use Rattle.mxf_index.specs.inner.Items.{entries_due}
use Rattle.mxf_index.specs.laws.Lengths.{length-entries}
use Rattle.mxf_index.proofs.RangeLemmas.{all_more, none_more}
use Rattle.mxf_index.proofs.StandLemmas.{both_hold}

-- all numbers below a bound
pub all_of : (test : ℕ → Bool) (n : ℕ) → ((k : ℕ) → k < n → test k ≡ true) → list_all test (range_with_len 0 n) ≡ true
all_of test zero each = refl
all_of test (suc n) each =
    let next : n + 1 ≡ suc n = omega arith in
    ap (λ (m : ℕ). list_all test (range_with_len 0 m)) (sym next)
    ∙ all_more test n (all_of test n (λ k less. each k (omega arith))) (each n (omega arith))

-- none of them
pub none_of : (test : ℕ → Bool) (n : ℕ) → ((k : ℕ) → k < n → test k ≡ false) → find test (range_with_len 0 n) ≡ None
none_of test zero each = refl
none_of test (suc n) each =
    let next : n + 1 ≡ suc n = omega arith in
    ap (λ (m : ℕ). find test (range_with_len 0 m)) (sym next)
    ∙ none_more test n (none_of test n (λ k less. each k (omega arith))) (each n (omega arith))

-- the entry of a frame, and what is behind it
pub entry_in : (streams : List ℕ) (k : ℕ) → k < length streams
    → (more : List ℕ) × (drop (11 * k) (flat_map frame_bytes streams) ≡ frame_bytes (slice_index streams k) ++ more)
entry_in [] k less = absurd (omega arith)
entry_in (stream ∷ streams) zero less = (flat_map frame_bytes streams, refl)
entry_in (stream ∷ streams) (suc k) less =
    let rest : List ℕ = flat_map frame_bytes streams in
    let more = entry_in streams k (omega arith) in
    let place : 11 * suc k ≡ 11 + 11 * k = omega arith in (
      more.0,
      ap (λ (n : ℕ). drop n (frame_bytes stream ++ rest)) place
          ∙ sym (drop-drop (11 * k) 11 (frame_bytes stream ++ rest))
          ∙ ap (drop (11 * k)) (drop_at (frame_bytes stream) rest 11 refl)
          ∙ more.1,
    )

-- the entries of frames, joined
joined_is : (streams : List ℕ) → joined (map entry_bytes (map entry_of_frame streams)) ≡ flat_map frame_bytes streams
joined_is [] = refl
joined_is (stream ∷ streams) = ap (λ (rest : List ℕ). frame_bytes stream ++ rest) (joined_is streams)

-- the item of their array
abbrev pub entries_item : List ℕ → RawItem
entries_item streams = array_item INDEX_ENTRIES ENTRY_SIZE (map entry_bytes (map entry_of_frame streams))

-- what stands in it
abbrev pub entries_held : List ℕ → List ℕ
entries_held streams = big_bytes 4 (length streams) ++ (big_bytes 4 ENTRY_SIZE ++ flat_map frame_bytes streams)

pub held_is : (streams : List ℕ) → (entries_item streams).value ≡ entries_held streams
held_is streams =
    let count : length (map entry_bytes (map entry_of_frame streams)) ≡ length streams =
    length-map (map entry_of_frame streams) entry_bytes ∙ length-map streams entry_of_frame in
    ap₂ (λ (n : ℕ) (bytes : List ℕ). big_bytes 4 n ++ (big_bytes 4 ENTRY_SIZE ++ bytes)) count (joined_is streams)

-- the entry of a frame in it
pub held_entry : (streams : List ℕ) (k : ℕ) → k < length streams
    → (more : List ℕ) × (drop (8 + 11 * k) (entries_held streams) ≡ frame_bytes (slice_index streams k) ++ more)
held_entry streams k less =
    let more = entry_in streams k less in
    (more.0, sym (drop-drop (11 * k) 8 (entries_held streams)) ∙ more.1)

-- its bytes
pub held_len : (streams : List ℕ) → length (entries_held streams) ≡ 8 + 11 * length streams
held_len streams = omega (arith, length-entries streams)

-- it is the one that is due
pub entries_are_due : (streams : List ℕ) → length streams ≤ 5957 → is_due (entries_due (length streams)) (entries_item streams) ≡ true
unfolding size_of may_be
entries_are_due streams few =
    let n : ℕ = length streams in
    let held : List ℕ = entries_held streams in
    let size : (length held == 8 + 11 * n) ≡ true = eq-eqb (length held) (8 + 11 * n) (held_len streams) in
    let count : (big_number 4 held == n) ≡ true =
    eq-eqb (big_number 4 held) n (big_number-reads_back 4 n (big_bytes 4 ENTRY_SIZE ++ flat_map frame_bytes streams) (omega arith)) in
    let each : list_all (is_frame_entry held) (range_with_len 0 n) ≡ true =
    all_of (is_frame_entry held) n (λ k less.
    let more = held_entry streams k less in
    ap (λ (bytes : List ℕ). big_number 3 bytes == 128) more.1 ∙ refl) in
    let array : (big_number 4 held == n && big_number 4 (drop 4 held) == 11) ≡ true =
    both_hold (big_number 4 held == n) (big_number 4 (drop 4 held) == 11) count refl in
    let all : (length held == 8 + 11 * n && ((big_number 4 held == n && big_number 4 (drop 4 held) == 11) && list_all (is_frame_entry held)
    (range_with_len 0 n))) ≡ true =
    both_hold (length held == 8 + 11 * n) _ size (both_hold (big_number 4 held == n && big_number 4 (drop 4 held) == 11) _ array each) in
    ap (λ (bytes : List ℕ). is_due (entries_due n) (record { tag = INDEX_ENTRIES; value = bytes })) (held_is streams) ∙ all

-- one that does
not_at : (streams : List ℕ) → AreRising streams → (k : ℕ) → k < length streams → falls streams k ≡ false
not_at streams rise zero less = refl
not_at streams rise (suc k) less =
    let next : suc k ≡ k + 1 = omega arith in
    let before : suc k - 1 ≡ k = omega arith in
    let above = rise k (omega arith) in
    let higher : get_or streams (suc k) 0 ≡ get_or streams (k + 1) 0 = ap (λ (n : ℕ). get_or streams n 0) next in
    let lower : get_or streams (suc k - 1) 0 ≡ get_or streams k 0 = ap (λ (n : ℕ). get_or streams n 0) before in
    let some : nat_lt 0 (suc k) ≡ true = lt-ltb 0 (suc k) (omega arith) in
    ap (λ (b : Bool). b && nat_le (get_or streams (suc k) 0) (get_or streams (suc k - 1) 0)) some
    ∙ lt-leb (get_or streams (suc k) 0) (get_or streams (suc k - 1) 0) (omega (arith, above, higher, lower))

-- offsets that rise
pub none_falls : (streams : List ℕ) → AreRising streams → first_fall streams ≡ None
none_falls streams rise = none_of (falls streams) (length streams) (not_at streams rise)
