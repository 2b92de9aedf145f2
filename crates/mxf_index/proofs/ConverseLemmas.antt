-- What a value is that breaks no rule.
use Rattle.std.proofs.Common.{◌≡◌, inl, inr, ◌≤◌, ◌<◌, ◌^◌, ℕ, zero, suc, ◌+◌, ◌*◌, ◌-◌, ◌&&◌, nat_lt, nat_le, Bool, true, false, List, [], ◌∷◌, ◌++◌}
use Rattle.std.proofs.Common.{None, length, map, take, drop, get_or}
use Rattle.std.proofs.Common.{refl, sym, ap, ap₂, ◌∙◌, arith, append-nil}
use Rattle.std.proofs.lemmas.Bool.{cases_Bool, eqb-true, leb-false, lt-ltb}
use Rattle.std.proofs.lemmas.Grind.{flat_map-append}
use Rattle.std.proofs.lemmas.List.{drop-drop, length-drop, take-append-drop, take_all}
use Rattle.std.proofs.lemmas.List.FromFn.{length-map-range_with_len, map-range_with_len_more}
use Rattle.std.proofs.Math.Seq.{take-add}
use Rattle.std.specs.List.{AllByRecursion, flat_map, range_with_len, list_all, find}
use Rattle.byteorder.specs.Endian.{big_bytes, big_number}
use Rattle.rec_bytes.specs.laws.Bytes.{AreBytes, left_bytes}
use Rattle.mxf_index.specs.Segments.{frame_bytes}
use Rattle.mxf_index.specs.Dues.{is_frame_entry}
use Rattle.mxf_index.specs.Reads.{AreRising, falls, first_fall}
use Rattle.mxf_index.proofs.EntriesLemmas.{entries_held}
use Rattle.mxf_index.proofs.NumberLemmas.{bytes_of, front_of}
use Rattle.mxf_index.proofs.RangeLemmas.{not_all, passed}

-- each of the numbers below a bound passes a test that all pass
pub each_of : (test : ℕ → Bool) (n k : ℕ) → list_all test (range_with_len 0 n) ≡ true → k < n → test k ≡ true
each_of test n k all less = elim (cases_Bool (test k)) [
  | inl passes ↦ passes
  | inr fails ↦ let other = not_all test k n less fails in absurd (cc)
]

-- no number from one on passes it
none_from : (test : ℕ → Bool) (a n k : ℕ) → find test (range_with_len a n) ≡ None → k < n → test (a + k) ≡ false
none_from test a zero k none less = absurd (omega arith)
none_from test a (suc n) zero none less =
    let same : a ≡ a + 0 = omega arith in
    ap test (sym same) ∙ (passed (test a) a (find test (range_with_len (a + 1) n)) none).0
none_from test a (suc n) (suc k) none less =
    let same : a + 1 + k ≡ a + suc k = omega arith in
    ap test (sym same) ∙ none_from test (a + 1) n k (passed (test a) a (find test (range_with_len (a + 1) n)) none).1 (omega arith)

-- none passes a test that none is found for
pub none_at : (test : ℕ → Bool) (n k : ℕ) → find test (range_with_len 0 n) ≡ None → k < n → test k ≡ false
none_at test n k none less =
    let same : k ≡ 0 + k = omega arith in
    ap test same ∙ none_from test 0 n k none less

-- eight bytes are two numbers of four
pub two_words : (v : List ℕ) → length v ≡ 8 → AreBytes v → v ≡ big_bytes 4 (big_number 4 v) ++ big_bytes 4 (big_number 4 (drop 4 v))
two_words v long are =
    let first = front_of 4 (big_number 4 v) v (omega arith) are refl in
    let second = bytes_of 4 (big_number 4 (drop 4 v)) (drop 4 v) (omega (arith, length-drop 4 v)) (left_bytes 4 v are) refl in
    sym (take-append-drop 4 v) ∙ ap₂ (λ (xs ys : List ℕ). xs ++ ys) first second

-- bytes of a number, a number behind it, and more
pub three_parts : (a x b y c z : ℕ) (v : List ℕ) → length v ≡ a + (b + c) → AreBytes v → big_number a v ≡ x → big_number b (drop a v) ≡ y
    → big_number c (drop (a + b) v) ≡ z
    → v ≡ big_bytes a x ++ (big_bytes b y ++ big_bytes c z)
three_parts a x b y c z v long are p q r =
    let first = front_of a x v (omega arith) are p in
    let second = front_of b y (drop a v) (omega (arith, length-drop a v)) (left_bytes a v are) q in
    let third = bytes_of c z (drop (a + b) v) (omega (arith, length-drop (a + b) v)) (left_bytes (a + b) v are) r in
    sym (take-append-drop a v)
    ∙ ap₂ (λ (xs ys : List ℕ). xs ++ ys) first
    (sym (take-append-drop b (drop a v)) ∙ ap₂ (λ (xs ys : List ℕ). xs ++ ys) second (drop-drop b a v ∙ third))

-- an entry by its two numbers
entry_is : (bytes : List ℕ) (stream : ℕ) → 11 ≤ length bytes → AreBytes bytes → big_number 3 bytes ≡ 128 → big_number 8 (drop 3 bytes) ≡ stream
    → take 11 bytes ≡ frame_bytes stream
entry_is bytes stream room are head number =
    let first = front_of 3 128 bytes (omega arith) are head in
    let second = front_of 8 stream (drop 3 bytes) (omega (arith, length-drop 3 bytes)) (left_bytes 3 bytes are) number in
    take-add 3 8 bytes ∙ ap₂ (λ (xs ys : List ℕ). xs ++ ys) first second

-- entries one after the other, by their numbers
entries_are : (bytes : List ℕ) (stream : ℕ → ℕ) (n : ℕ) → length bytes ≡ 11 * n → AreBytes bytes
    → ((k : ℕ) → k < n → (big_number 3 (drop (11 * k) bytes) ≡ 128) × (big_number 8 (drop (11 * k + 3) bytes) ≡ stream k))
    → (k : ℕ) → k ≤ n → take (11 * k) bytes ≡ flat_map frame_bytes (map stream (range_with_len 0 k))
entries_are bytes stream n long are each zero most = refl
entries_are bytes stream n long are each (suc k) most =
    let before = entries_are bytes stream n long are each k (omega arith) in
    let here = each k (omega arith) in
    let behind : List ℕ = drop (11 * k) bytes in
    let room : 11 ≤ length behind = omega (arith, length-drop (11 * k) bytes) in
    let entry = entry_is behind (stream k) room (left_bytes (11 * k) bytes are) here.0 (ap (big_number 8) (drop-drop 3 (11 * k) bytes) ∙ here.1) in
    let place : 11 * suc k ≡ 11 * k + 11 = omega arith in
    let next : suc k ≡ k + 1 = omega arith in
    ap (λ (m : ℕ). take m bytes) place
    ∙ take-add (11 * k) 11 bytes
    ∙ ap₂ (λ (xs ys : List ℕ). xs ++ ys) before (entry ∙ sym (append-nil (frame_bytes (stream k))))
    ∙ sym (flat_map-append frame_bytes (map stream (range_with_len 0 k)) (stream k ∷ []))
    ∙ ap (flat_map frame_bytes) (sym (map-range_with_len_more stream 0 k k (omega arith)))
    ∙ ap (λ (m : ℕ). flat_map frame_bytes (map stream (range_with_len 0 m))) (sym next)

-- the array of entries, by its numbers
pub array_is : (v : List ℕ) (stream : ℕ → ℕ) (n : ℕ) → length v ≡ 8 + 11 * n → AreBytes v → big_number 4 v ≡ n → big_number 4 (drop 4 v) ≡ 11
    → list_all (is_frame_entry v) (range_with_len 0 n) ≡ true → ((k : ℕ) → k < n → big_number 8 (drop (8 + 11 * k + 3) v) ≡ stream k)
    → v ≡ entries_held (map stream (range_with_len 0 n))
array_is v stream n long are count size all streams =
    let rest : List ℕ = drop 8 v in
    let left : length rest ≡ 11 * n = omega (arith, length-drop 8 v) in
    let each : (k : ℕ) → k < n → (big_number 3 (drop (11 * k) rest) ≡ 128) × (big_number 8 (drop (11 * k + 3) rest) ≡ stream k) =
    λ k less. (
      ap (big_number 3) (drop-drop (11 * k) 8 v) ∙ eqb-true (big_number 3 (drop (8 + 11 * k) v)) 128 (each_of (is_frame_entry v) n k all less),
      ap (big_number 8) (drop-drop (11 * k + 3) 8 v ∙ ap (λ (m : ℕ). drop m v) (omega arith)) ∙ streams k less,
    ) in
    let entries = entries_are rest stream n left (left_bytes 8 v are) each n (omega arith) in
    let whole : rest ≡ take (11 * n) rest = sym (take_all (11 * n) rest (omega (arith, left))) in
    let first = front_of 4 n v (omega arith) are count in
    let second = front_of 4 11 (drop 4 v) (omega (arith, length-drop 4 v)) (left_bytes 4 v are) size in
    let number : n ≡ length (map stream (range_with_len 0 n)) = sym (length-map-range_with_len stream 0 n) in
    sym (take-append-drop 4 v)
    ∙ ap₂ (λ (xs ys : List ℕ). xs ++ ys) (first ∙ ap (big_bytes 4) number)
    (sym (take-append-drop 4 (drop 4 v)) ∙ ap₂ (λ (xs ys : List ℕ). xs ++ ys) second (drop-drop 4 4 v ∙ whole ∙ entries))

-- offsets of which none falls rise
pub rise : (streams : List ℕ) → first_fall streams ≡ None → AreRising streams
rise streams none k less =
    let not : falls streams (k + 1) ≡ false = none_at (falls streams) (length streams) (k + 1) none less in
    let some : nat_lt 0 (k + 1) ≡ true = lt-ltb 0 (k + 1) (omega arith) in
    let before : k + 1 - 1 ≡ k = omega arith in
    let test : nat_le (get_or streams (k + 1) 0) (get_or streams (k + 1 - 1) 0) ≡ false =
    ap (λ (b : Bool). b && nat_le (get_or streams (k + 1) 0) (get_or streams (k + 1 - 1) 0)) (sym some) ∙ not in
    let above = leb-false (get_or streams (k + 1) 0) (get_or streams (k + 1 - 1) 0) test in
    omega (arith, above, ap (λ (n : ℕ). get_or streams n 0) before)

-- numbers of eight bytes are small
pub fit : (f : ℕ → ℕ) → ((k : ℕ) → f k < 2 ^ 64) → (a n : ℕ) → AllByRecursion (λ x. x < 2 ^ 64) (map f (range_with_len a n))
fit f each a zero = tt
fit f each a (suc n) = (each a, fit f each (a + 1) n)
