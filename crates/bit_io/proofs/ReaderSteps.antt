use Rattle.std.proofs.Common.{◌≡◌, ℕ, zero, suc, ◌+◌, ◌-◌, ◌*◌, ◌/◌, ◌%◌, ◌^◌, ◌<◌, ◌≤◌, List, [], ◌∷◌, ◌++◌, length, take, drop, refl, sym, ap, ◌∙◌, arith, subst, get_or}
use Rattle.std.proofs.lemmas.Nat.{shr_below, pow_pos}
use Rattle.std.proofs.Math.Nat.{zero-div, zero-mul}
use Rattle.std.proofs.lemmas.List.{length-append, ext_get_or, get_or-replicate}
use Rattle.bit_io.specs.Bits.{bits, bits_of, zeros}
use Rattle.bit_io.specs.Read.{Reading, Takes, Reads}
use Rattle.bit_io.specs.inner.Window.{highest, bits_left}
use Rattle.bit_io.specs.laws.BitLaws.{length-bits, length-bits_of, bits-same, bits-zero, same_parts, zeros-add, length-zeros}
use Rattle.bit_io.proofs.WindowSteps.{first_bits, upper, length-highest}

-- the first n of the bits shown are read
pub reads : (old new : Reading) (n peek : ℕ) → n ≤ 32 → peek < 2 ^ 32 → n ≤ length old.left → bits 32 peek ≡ take 32 (old.left ++ zeros 32) → Takes old new (take n old.left) → Reads old new n (peek / 2 ^ (32 - n))
reads old new n peek h small there shown taken =
    let P : List ℕ → Type 0 = λ bs. Takes old new bs in
    let whole : 32 ≡ n + (32 - n) = omega arith in
    record {
      small = shr_below peek n (32 - n) (subst (λ (k : ℕ). peek < 2 ^ k) whole small);
      taken = subst P (sym (first_bits old.left peek n h there shown)) taken;
    }

-- what was spelled is read, whatever follows
pub read_again : (old new : Reading) (n a b : ℕ) (rest : List ℕ) → Reads old new n a → b < 2 ^ n → old.left ≡ bits n b ++ rest → (a ≡ b) × (new.left ≡ rest)
read_again old new n a b rest read small e =
    let parts = same_parts (bits n a) (bits n b) new.left rest (length-bits n a ∙ sym (length-bits n b)) (sym read.taken.left ∙ e) in
    (bits-same n a b read.small small parts.0, parts.1)

pub spelled_there : (left rest : List ℕ) (n b : ℕ) → left ≡ bits n b ++ rest → n ≤ length left
spelled_there left rest n b e = omega (arith, ap length e, length-append (bits n b) rest, length-bits n b)

-- a list of zeros, element by element
pub get_or-zeros : (n i : ℕ) → i < n → get_or (zeros n) i 0 ≡ 0
unfolding zeros
get_or-zeros n i h = get_or-replicate n i 0 0 h

pub zeros_at : (xs : List ℕ) (i : ℕ) → xs ≡ zeros (length xs) → i < length xs → get_or xs i 0 ≡ 0
zeros_at xs i e h = ap (λ (ys : List ℕ). get_or ys i 0) e ∙ get_or-zeros (length xs) i h

pub zeros_from : (xs : List ℕ) → ((k : ℕ) → k < length xs → get_or xs k 0 ≡ 0) → xs ≡ zeros (length xs)
zeros_from xs f = ext_get_or 0 xs (zeros (length xs)) (sym (length-zeros (length xs))) (λ i h. f i h ∙ sym (get_or-zeros (length xs) i h))

zeros_join : (xs ys : List ℕ) → xs ≡ zeros (length xs) → ys ≡ zeros (length ys) → xs ++ ys ≡ zeros (length (xs ++ ys))
zeros_join xs ys e d =
    ap (λ (zs : List ℕ). zs ++ ys) e ∙ (ap (λ (zs : List ℕ). zeros (length xs) ++ zs) d ∙ sym (ap zeros (length-append xs ys) ∙ zeros-add (length xs) (length ys)))

zeros_parts : (xs ys : List ℕ) → xs ++ ys ≡ zeros (length (xs ++ ys)) → (xs ≡ zeros (length xs)) × (ys ≡ zeros (length ys))
zeros_parts xs ys e =
    same_parts xs (zeros (length xs)) ys (zeros (length ys)) (sym (length-zeros (length xs))) (e ∙ (ap zeros (length-append xs ys) ∙ zeros-add (length xs) (length ys)))

-- bytes are zero where their bits are
pub bits_of_zero : (bytes : List ℕ) → ((k : ℕ) → k < length bytes → get_or bytes k 0 ≡ 0) → bits_of bytes ≡ zeros (8 * length bytes)
unfolding bits_of zeros
bits_of_zero [] f = refl
bits_of_zero (b ∷ bs) f =
    ap (λ (c : ℕ). bits 8 c ++ bits_of bs) (f 0 (omega arith))
    ∙ (ap (λ (zs : List ℕ). zs ++ bits_of bs) (bits-zero 8)
    ∙ (ap (λ (zs : List ℕ). zeros 8 ++ zs) (bits_of_zero bs (λ k h. f (suc k) (omega arith)))
    ∙ (sym (zeros-add 8 (8 * length bs)) ∙ ap zeros (eight (length bs)))))
  where
    eight : (n : ℕ) → 8 + 8 * n ≡ 8 * suc n
    eight n = omega arith

zero_each : (xs : List ℕ) → ((k : ℕ) → get_or xs k 0 < 256) → bits_of xs ≡ zeros (length (bits_of xs)) → (k : ℕ) → k < length xs → get_or xs k 0 ≡ 0
unfolding bits_of
zero_each [] fits e k h = absurd (omega arith)
zero_each (b ∷ bs) fits e zero h =
    bits-same 8 b 0 (fits 0) (omega arith) ((zeros_parts (bits 8 b) (bits_of bs) e).0 ∙ (ap zeros (length-bits 8 b) ∙ sym (bits-zero 8)))
zero_each (b ∷ bs) fits e (suc k) h =
    zero_each bs (λ j. fits (suc j)) (zeros_parts (bits 8 b) (bits_of bs) e).1 k (omega arith)

pub zero_from_bits : (bytes : List ℕ) → ((k : ℕ) → get_or bytes k 0 < 256) → bits_of bytes ≡ zeros (8 * length bytes) → (k : ℕ) → k < length bytes → get_or bytes k 0 ≡ 0
zero_from_bits bytes small e = zero_each bytes small (e ∙ ap zeros (sym (length-bits_of bytes)))

-- the loaded bits are zero where the word is
pub highest_zero : (count word : ℕ) → word ≡ 0 → highest count word ≡ zeros count
unfolding highest
highest_zero count word e = ap (bits count) (ap (λ (m : ℕ). m / 2 ^ (64 - count)) e ∙ zero-div (2 ^ (64 - count))) ∙ bits-zero count

pub zero_from_highest : (count word : ℕ) → word < 2 ^ 64 → count ≤ 64 → word % 2 ^ (64 - count) ≡ 0 → highest count word ≡ zeros count → word ≡ 0
unfolding highest
zero_from_highest count word fits room behind e =
    let W : ℕ = word / 2 ^ (64 - count) in
    let whole : 64 ≡ count + (64 - count) = omega arith in
    let low : W < 2 ^ count = shr_below word count (64 - count) (subst (λ (k : ℕ). word < 2 ^ k) whole fits) in
    let none : W ≡ 0 = bits-same count W 0 low (pow_pos count) (e ∙ sym (bits-zero count)) in
    upper word (64 - count) behind ∙ (ap (λ (m : ℕ). m * 2 ^ (64 - count)) none ∙ zero-mul (2 ^ (64 - count)))

-- all bits left are zero where those that are loaded and those behind are
pub left_zero : (bytes : List ℕ) (at word count : ℕ) → highest count word ≡ zeros count → bits_of (drop at bytes) ≡ zeros (8 * length (drop at bytes))
    → bits_left bytes at word count ≡ zeros (length (bits_left bytes at word count))
unfolding bits_left
left_zero bytes at word count e d =
    zeros_join (highest count word) (bits_of (drop at bytes)) (e ∙ ap zeros (sym (length-highest count word))) (d ∙ ap zeros (sym (length-bits_of (drop at bytes))))

pub zero_from_left : (bytes : List ℕ) (at word count : ℕ) → bits_left bytes at word count ≡ zeros (length (bits_left bytes at word count))
    → (highest count word ≡ zeros count) × (bits_of (drop at bytes) ≡ zeros (8 * length (drop at bytes)))
unfolding bits_left
zero_from_left bytes at word count e =
    let parts = zeros_parts (highest count word) (bits_of (drop at bytes)) e in
    (parts.0 ∙ ap zeros (length-highest count word), parts.1 ∙ ap zeros (length-bits_of (drop at bytes)))
