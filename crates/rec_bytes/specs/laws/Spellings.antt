-- Laws of the configuration's spelling: proved here, for proofs to cite.
use Rattle.std.proofs.Common.{◌≡◌, ◌&&◌, ◌==◌, None, ℕ, zero, suc, ◌+◌, ◌-◌, ◌<◌, ◌≤◌, List, [], ◌∷◌, ◌++◌, Bool, true, false}
use Rattle.std.proofs.Common.{length, take, drop, slice_index, replicate, min, refl, sym, ap, ap₂, subst, ◌∙◌, arith, drop-cons}
use Rattle.std.proofs.lemmas.List.{length-append, length-drop, length-take, length-take-le, take_all}
use Rattle.std.proofs.lemmas.Bool.{and_parts}
use Rattle.std.proofs.Math.Seq.{take-add}
use Rattle.std.specs.List.{list_all}
use Rattle.byteorder.specs.Endian.{big_bytes}
use Rattle.byteorder.specs.Numbers.{length-bytes_high_first}
use Rattle.rec_bytes.specs.Configuration.{Fields, fields_of, spelling, field_rules, zero_rules, are_zero, first_broken, first_fault, Spells}
use Rattle.rec_bytes.specs.declared.config_fields.TheConstants.{CONFIG_LEN}
use Rattle.rec_bytes.specs.laws.Bytes.{AreBytes, bytes_of_2, bytes_of_4}

-- where no rule is broken, all are kept
pub all_kept : (rules : List (ℕ × Bool)) → first_broken rules ≡ None → list_all (λ (rule : ℕ × Bool). rule.1) rules ≡ true
unfolding first_broken
all_kept [] e = refl
all_kept ((place, true) ∷ rules) e = all_kept rules e
all_kept ((place, false) ∷ rules) e = absurd (cc)

-- and none of the last ones is broken
none_behind : (rules more : List (ℕ × Bool)) → first_broken (rules ++ more) ≡ None → first_broken more ≡ None
unfolding first_broken
none_behind [] more e = e
none_behind ((place, true) ∷ rules) more e = none_behind rules more e
none_behind ((place, false) ∷ rules) more e = absurd (cc)

-- the byte at a place
byte_of : (at : ℕ) (xs : List ℕ) → at < length xs → take 1 (drop at xs) ≡ slice_index xs at ∷ []
byte_of at xs h = rw (drop-cons xs at 0 h) refl

-- bytes that are all zero
zeros_are : (xs : List ℕ) → list_all (λ (b : ℕ). b == 0) xs ≡ true → xs ≡ replicate (length xs) 0
zeros_are [] h = refl
zeros_are (zero ∷ xs) h = ap (λ (ys : List ℕ). 0 ∷ ys) (zeros_are xs h)
zeros_are (suc x ∷ xs) h = grind arith

-- the first bytes, and the bytes behind them
grow : (at n : ℕ) (xs front new : List ℕ) → take at xs ≡ front → take n (drop at xs) ≡ new → take (at + n) xs ≡ front ++ new
grow at n xs front new e g = take-add at n xs ∙ ap₂ (λ (a b : List ℕ). a ++ b) e g

-- where the rules on zeros are kept, both parts are zero
zeros_hold : (xs : List ℕ) → first_broken (zero_rules xs) ≡ None → (are_zero (take 2 (drop 26 xs)) ≡ true) × ((are_zero (take 12 (drop 52 xs)) && true) ≡ true)
unfolding zero_rules
zeros_hold xs h = and_parts (are_zero (take 2 (drop 26 xs))) (are_zero (take 12 (drop 52 xs)) && true) (all_kept (zero_rules xs) h)

-- bytes that are zero are spelled as zeros
zeros_at : (at n : ℕ) (xs : List ℕ) → at + n ≤ length xs → are_zero (take n (drop at xs)) ≡ true → take n (drop at xs) ≡ replicate n 0
zeros_at at n xs room h =
    let long : length (take n (drop at xs)) ≡ n = length-take-le n (drop at xs) (omega (arith, length-drop at xs)) in
    subst (λ (k : ℕ). take n (drop at xs) ≡ replicate k 0) long (zeros_are (take n (drop at xs)) h)

-- bytes that keep the rules are the spelling of the fields that stand in them
pub spelled_once : (xs : List ℕ) → length xs ≡ CONFIG_LEN → AreBytes xs → first_broken (zero_rules xs) ≡ None → xs ≡ spelling (fields_of xs)
unfolding fields_of spelling
spelled_once xs l h z =
    let zeros : (are_zero (take 2 (drop 26 xs)) ≡ true) × ((are_zero (take 12 (drop 52 xs)) && true) ≡ true) = zeros_hold xs z in
    let ends : (are_zero (take 12 (drop 52 xs)) ≡ true) × (true ≡ true) = and_parts (are_zero (take 12 (drop 52 xs))) true zeros.1 in
    let to_2 = grow 0 2 xs _ _ refl (bytes_of_2 0 xs h (omega (arith, l))) in
    let to_4 = grow 2 2 xs _ _ to_2 (bytes_of_2 2 xs h (omega (arith, l))) in
    let to_5 = grow 4 1 xs _ _ to_4 (byte_of 4 xs (omega (arith, l))) in
    let to_6 = grow 5 1 xs _ _ to_5 (byte_of 5 xs (omega (arith, l))) in
    let to_7 = grow 6 1 xs _ _ to_6 (byte_of 6 xs (omega (arith, l))) in
    let to_8 = grow 7 1 xs _ _ to_7 (byte_of 7 xs (omega (arith, l))) in
    let to_9 = grow 8 1 xs _ _ to_8 (byte_of 8 xs (omega (arith, l))) in
    let to_10 = grow 9 1 xs _ _ to_9 (byte_of 9 xs (omega (arith, l))) in
    let to_11 = grow 10 1 xs _ _ to_10 (byte_of 10 xs (omega (arith, l))) in
    let to_12 = grow 11 1 xs _ _ to_11 (byte_of 11 xs (omega (arith, l))) in
    let to_13 = grow 12 1 xs _ _ to_12 (byte_of 12 xs (omega (arith, l))) in
    let to_14 = grow 13 1 xs _ _ to_13 (byte_of 13 xs (omega (arith, l))) in
    let to_15 = grow 14 1 xs _ _ to_14 (byte_of 14 xs (omega (arith, l))) in
    let to_16 = grow 15 1 xs _ _ to_15 (byte_of 15 xs (omega (arith, l))) in
    let to_18 = grow 16 2 xs _ _ to_16 (bytes_of_2 16 xs h (omega (arith, l))) in
    let to_20 = grow 18 2 xs _ _ to_18 (bytes_of_2 18 xs h (omega (arith, l))) in
    let to_24 = grow 20 4 xs _ _ to_20 (bytes_of_4 20 xs h (omega (arith, l))) in
    let to_26 = grow 24 2 xs _ _ to_24 (bytes_of_2 24 xs h (omega (arith, l))) in
    let to_28 = grow 26 2 xs _ _ to_26 (zeros_at 26 2 xs (omega (arith, l)) zeros.0) in
    let to_32 = grow 28 4 xs _ _ to_28 (bytes_of_4 28 xs h (omega (arith, l))) in
    let to_48 = grow 32 16 xs _ _ to_32 refl in
    let to_52 = grow 48 4 xs _ _ to_48 refl in
    let to_64 = grow 52 12 xs _ _ to_52 (zeros_at 52 12 xs (omega (arith, l)) ends.0) in
    sym (take_all 64 xs (omega (arith, l))) ∙ to_64

-- so 64 bytes that break no rule spell the fields that stand in them
pub spells_there : (bytes : List ℕ) → length bytes ≡ CONFIG_LEN → AreBytes bytes → first_fault bytes ≡ None → Spells bytes (fields_of bytes)
unfolding first_fault
spells_there bytes long are kept = record {
  kept = kept;
  stand = refl;
  spelled = spelled_once bytes long are (none_behind (field_rules (fields_of bytes)) (zero_rules bytes) kept);
}

-- the length of two parts
joined : (n k : ℕ) (xs ys : List ℕ) → length xs ≡ n → length ys ≡ k → length (xs ++ ys) ≡ n + k
joined n k xs ys p q = length-append xs ys ∙ (λ i. p i + q i)

-- k bytes and a number of n bytes behind them
behind : (k n x : ℕ) (xs : List ℕ) → length xs ≡ k → length (xs ++ big_bytes n x) ≡ k + n
behind k n x xs p = joined k n xs (big_bytes n x) p (length-bytes_high_first n x)

-- the spelling of fields has 44 bytes besides the two lists among them
pub length-spelling : (f : Fields) → length (spelling f) ≡ 44 + length f.take_id + length f.encoder
unfolding spelling
length-spelling f =
    let size : List ℕ = big_bytes 2 f.width ++ big_bytes 2 f.height in
    let picture : List ℕ = size ++ (f.interlace ∷ f.rate ∷ f.aspect ∷ f.primaries ∷ f.transfer ∷ f.matrix ∷ []) in
    let coding : List ℕ = picture ++ (f.log2 ∷ f.qmin ∷ f.qmax ∷ f.weights ∷ f.coding ∷ f.drop ∷ []) in
    let budget : List ℕ = coding ++ big_bytes 2 f.budget in
    let part : List ℕ = budget ++ big_bytes 2 f.part in
    let frames : List ℕ = part ++ big_bytes 4 f.max_frames in
    let lag : List ℕ = frames ++ big_bytes 2 f.lag in
    let zeros : List ℕ = lag ++ replicate 2 0 in
    let start : List ℕ = zeros ++ big_bytes 4 f.start in
    let id : List ℕ = start ++ f.take_id in
    let size_long : length size ≡ 4 = behind 2 2 f.height (big_bytes 2 f.width) (length-bytes_high_first 2 f.width) in
    let picture_long : length picture ≡ 10 = joined 4 6 size (f.interlace ∷ f.rate ∷ f.aspect ∷ f.primaries ∷ f.transfer ∷ f.matrix ∷ []) size_long refl in
    let coding_long : length coding ≡ 16 = joined 10 6 picture (f.log2 ∷ f.qmin ∷ f.qmax ∷ f.weights ∷ f.coding ∷ f.drop ∷ []) picture_long refl in
    let budget_long : length budget ≡ 18 = behind 16 2 f.budget coding coding_long in
    let part_long : length part ≡ 20 = behind 18 2 f.part budget budget_long in
    let frames_long : length frames ≡ 24 = behind 20 4 f.max_frames part part_long in
    let lag_long : length lag ≡ 26 = behind 24 2 f.lag frames frames_long in
    let zeros_long : length zeros ≡ 28 = joined 26 2 lag (replicate 2 0) lag_long refl in
    let start_long : length start ≡ 32 = behind 28 4 f.start zeros zeros_long in
    let id_long : length id ≡ 32 + length f.take_id = joined 32 (length f.take_id) start f.take_id start_long refl in
    let encoder_long : length (id ++ f.encoder) ≡ 32 + length f.take_id + length f.encoder =
    joined (32 + length f.take_id) (length f.encoder) id f.encoder id_long refl in
    let all : length (spelling f) ≡ 32 + length f.take_id + length f.encoder + 12 =
    joined (32 + length f.take_id + length f.encoder) 12 (id ++ f.encoder) (replicate 12 0) encoder_long refl in
    omega arith

-- a spelling has 64 bytes
pub spelling_long : (bytes : List ℕ) (fields : Fields) → Spells bytes fields → length bytes ≡ CONFIG_LEN
unfolding fields_of
spelling_long bytes fields s =
    let all : length bytes ≡ 44 + length fields.take_id + length fields.encoder = ap (length {A = ℕ}) s.spelled ∙ length-spelling fields in
    let id : length fields.take_id ≡ min 16 (length bytes - 32) =
    ap (λ (f : Fields). length f.take_id) (sym s.stand) ∙ length-take 16 (drop 32 bytes) ∙ ap (min 16) (length-drop 32 bytes) in
    let enc : length fields.encoder ≡ min 4 (length bytes - 48) =
    ap (λ (f : Fields). length f.encoder) (sym s.stand) ∙ length-take 4 (drop 48 bytes) ∙ ap (min 4) (length-drop 48 bytes) in
    omega arith
