-- The samples that stand in bytes.
use Rattle.std.proofs.Common.{◌≡◌, ℕ, zero, suc, ◌+◌, ◌*◌, ◌<◌, ◌≤◌, List, [], ◌∷◌, ◌++◌, length, take, drop, slice_index, refl, sym, ap, ◌∙◌, subst}
use Rattle.std.proofs.Common.{arith, inl, inr, ◌⊎◌}
use Rattle.std.proofs.lemmas.List.{length-append, length-drop, get_or-take, get_or-drop, take-append-le, take-append-drop, drop-drop, drop_at}
use Rattle.std.proofs.lemmas.Bool.{cases_lt}
use Rattle.byteorder.specs.Endian.{big_number, big_bytes}
use Rattle.byteorder.specs.Numbers.{length-bytes_high_first, big_number-reads_back}
use Rattle.rec_bytes.specs.laws.Bytes.{AreBytes, bytes_of_2, left_bytes}
use Rattle.raw_feed.specs.declared.limits.TheConstants.{MAX_SAMPLE}
use Rattle.raw_feed.specs.Items.{sample_in, IsWrongSample}
use Rattle.raw_feed.specs.Pictures.{spelled}

-- a sample by its two bytes
pub sample_is : (bytes : List ℕ) (k : ℕ) → sample_in bytes k ≡ slice_index bytes (2 * k) * 256 + slice_index bytes (2 * k + 1)
sample_is bytes k =
    let a : slice_index (drop (2 * k) bytes) 0 ≡ slice_index bytes (2 * k) =
    get_or-drop (2 * k) bytes 0 0 ∙ ap (slice_index bytes) (let e : 2 * k + 0 ≡ 2 * k = omega arith in e) in
    let b : slice_index (drop (2 * k) bytes) 1 ≡ slice_index bytes (2 * k + 1) = get_or-drop (2 * k) bytes 1 0 in
    omega arith

-- a sample whose bytes are among the first of some bytes
pub sample_taken : (n : ℕ) (bytes : List ℕ) (k : ℕ) → 2 * k + 2 ≤ n → sample_in (take n bytes) k ≡ sample_in bytes k
sample_taken n bytes k room =
    let a = get_or-take n bytes (2 * k) 0 (omega arith) in
    let b = get_or-take n bytes (2 * k + 1) 0 (omega arith) in
    let p = sample_is (take n bytes) k in
    let q = sample_is bytes k in
    omega arith

-- a sample whose bytes stand before others
pub sample_before : (bytes tail : List ℕ) (k : ℕ) → 2 * k + 2 ≤ length bytes → sample_in (bytes ++ tail) k ≡ sample_in bytes k
sample_before bytes tail k room =
    sym (sample_taken (length bytes) (bytes ++ tail) k room)
    ∙ ap (λ (xs : List ℕ). sample_in xs k) (take-append-le (length bytes) bytes tail (omega arith) ∙ take_whole bytes)
  where
    take_whole : (xs : List ℕ) → take (length xs) xs ≡ xs
    take_whole [] = refl
    take_whole (x ∷ xs) = λ i. x ∷ take_whole xs i

-- none of the first n samples that are there is too great
abbrev pub NoneWrong : ℕ → List ℕ → Type 0
NoneWrong n bytes = (k : ℕ) → k < n → 2 * k + 2 ≤ length bytes → sample_in bytes k ≤ MAX_SAMPLE

last_right : (n : ℕ) (bytes : List ℕ) → NoneWrong n bytes → (2 * n + 2 ≤ length bytes → sample_in bytes n ≤ MAX_SAMPLE) → NoneWrong (n + 1) bytes
last_right n bytes right last k less room = on (cases_lt k n)
  where
    on : ((k < n) ⊎ (n ≤ k)) → sample_in bytes k ≤ MAX_SAMPLE
    on (inl before) = right k before room
    on (inr at) = let e : n ≡ k = omega arith in subst (λ (m : ℕ). sample_in bytes m ≤ MAX_SAMPLE) e (last (omega arith))

last_look : (n : ℕ) (bytes : List ℕ) → NoneWrong n bytes → ((length bytes < 2 * n + 2) ⊎ (2 * n + 2 ≤ length bytes))
    → ((MAX_SAMPLE < sample_in bytes n) ⊎ (sample_in bytes n ≤ MAX_SAMPLE)) → NoneWrong (n + 1) bytes ⊎ ((k : ℕ) × IsWrongSample (n + 1) bytes k)
last_look n bytes right (inl short) other = inl (last_right n bytes right (λ room. absurd (omega arith)))
last_look n bytes right (inr room) (inr small) = inl (last_right n bytes right (λ r. small))
last_look n bytes right (inr room) (inl great) =
    inr (n, record { inside = omega arith; there = room; above = great; first = λ j less. right j less (omega arith) })

look_more : (n : ℕ) (bytes : List ℕ) → (NoneWrong n bytes ⊎ ((k : ℕ) × IsWrongSample n bytes k)) → NoneWrong (n + 1) bytes ⊎ ((k : ℕ) × IsWrongSample (n + 1) bytes k)
look_more n bytes (inr (k, w)) =
    let i = w.inside in inr (k, record { inside = omega arith; there = w.there; above = w.above; first = w.first })
look_more n bytes (inl right) = last_look n bytes right (cases_lt (length bytes) (2 * n + 2)) (cases_lt MAX_SAMPLE (sample_in bytes n))

-- a wrong sample among the first n, or none
pub look : (n : ℕ) (bytes : List ℕ) → NoneWrong n bytes ⊎ ((k : ℕ) × IsWrongSample n bytes k)
look zero bytes = inl (λ k less. absurd (omega arith))
look (suc n) bytes =
    subst (λ (m : ℕ). NoneWrong m bytes ⊎ ((k : ℕ) × IsWrongSample m bytes k)) (let e : n + 1 ≡ suc n = omega arith in e) (look_more n bytes (look n bytes))

-- samples in two bytes each
pub length-spelled : (xs : List ℕ) → length (spelled xs) ≡ 2 * length xs
length-spelled [] = refl
length-spelled (x ∷ xs) =
    let l = length-append (big_bytes 2 x) (spelled xs) in let m = length-bytes_high_first 2 x in let n = length-spelled xs in omega arith

-- bytes are the samples that stand in them
pub spelled_is : (xs bytes : List ℕ) → length bytes ≡ 2 * length xs → AreBytes bytes
    → ((k : ℕ) → k < length xs → slice_index xs k ≡ sample_in bytes k) → spelled xs ≡ bytes
spelled_is [] [] long are right = refl
spelled_is [] (b ∷ bs) long are right = absurd (omega arith)
spelled_is (x ∷ xs) bytes long are right =
    let two : take 2 bytes ≡ big_bytes 2 (big_number 2 bytes) = bytes_of_2 0 bytes are (omega arith) in
    let value : x ≡ big_number 2 bytes = right 0 (omega arith) in
    let first : big_bytes 2 x ≡ take 2 bytes = ap (big_bytes 2) value ∙ sym two in
    let rest : spelled xs ≡ drop 2 bytes =
    spelled_is xs (drop 2 bytes) (let l = length-drop 2 bytes in omega arith) (left_bytes 2 bytes are)
    (λ k less. right (suc k) (omega arith) ∙ later k) in
    cc (first, rest, take-append-drop 2 bytes)
  where
    later : (k : ℕ) → sample_in bytes (suc k) ≡ sample_in (drop 2 bytes) k
    later k =
        let e : drop (2 * k) (drop 2 bytes) ≡ drop (2 + 2 * k) bytes = drop-drop (2 * k) 2 bytes in
        let f : 2 + 2 * k ≡ 2 * suc k = omega arith in
        ap (big_number 2) (ap (λ (n : ℕ). drop n bytes) (sym f) ∙ sym e)

-- the samples of some bytes behind the bytes of others
pub sample_behind : (xs piece : List ℕ) (k : ℕ) → sample_in (spelled xs ++ piece) (length xs + k) ≡ sample_in piece k
sample_behind xs piece k =
    let front = length-spelled xs in
    let e : 2 * (length xs + k) ≡ length (spelled xs) + 2 * k = omega arith in
    ap (big_number 2) (ap (λ (n : ℕ). drop n (spelled xs ++ piece)) e ∙ sym (drop-drop (2 * k) (length (spelled xs)) (spelled xs ++ piece))
    ∙ ap (drop (2 * k)) (drop_at (spelled xs) piece (length (spelled xs)) refl))

-- a sample that was spelled
pub sample_spelled : (xs : List ℕ) (k : ℕ) → k < length xs → slice_index xs k < 65536 → sample_in (spelled xs) k ≡ slice_index xs k
sample_spelled [] k less small = absurd (omega arith)
sample_spelled (x ∷ xs) zero less small = big_number-reads_back 2 x (spelled xs) small
sample_spelled (x ∷ xs) (suc k) less small =
    let two = length-bytes_high_first 2 x in
    let e : 2 * suc k ≡ 2 + 2 * k = omega arith in
    ap (big_number 2) (ap (λ (n : ℕ). drop n (big_bytes 2 x ++ spelled xs)) e ∙ sym (drop-drop (2 * k) 2 (big_bytes 2 x ++ spelled xs))
    ∙ ap (drop (2 * k)) (drop_at (big_bytes 2 x) (spelled xs) 2 two))
    ∙ sample_spelled xs k (omega arith) small
