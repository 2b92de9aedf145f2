-- Bytes are those of the number that they spell: proved here, for proofs to cite.
use Rattle.std.proofs.Common.{◌≡◌, inl, inr, ℕ, zero, suc, ◌+◌, ◌*◌, ◌^◌, ◌<◌, ◌≤◌, List, [], ◌∷◌, length, get_or, refl, sym, ap, ap₂, ◌∙◌, arith, append-nil}
use Rattle.std.proofs.lemmas.Bool.{cases_lt}
use Rattle.std.proofs.Math.Nat.{mod-lt, mul-le-mul_right, add-mul}
use Rattle.std.specs.Int.{byte_at, bytes_high_first}
use Rattle.byteorder.specs.Endian.{big_from, big_bytes, big_number}
use Rattle.byteorder.specs.Numbers.{big_from-cons, big_from-lt, big_number-reads_back, length-bytes_high_first}

-- each of them is a byte
abbrev pub AreBytes : List ℕ → Type 0
AreBytes xs = (k : ℕ) → get_or xs k 0 < 256

-- a digit and what is below it are told by the number
digit_below : (p a b r s : ℕ) → r < p → s < p → a * p + r ≡ b * p + s → a < b → ⊥
digit_below p a b r s hr hs e lt =
    let more : (a + 1) * p ≤ b * p = mul-le-mul_right p (omega arith) in
    let expand : (a + 1) * p ≡ a * p + 1 * p = add-mul a 1 p in
    omega arith

digit_one : (p a b r s : ℕ) → r < p → s < p → a * p + r ≡ b * p + s → (a ≡ b) × (r ≡ s)
digit_one p a b r s hr hs e = elim (cases_lt a b) [
  | inl lt ↦ absurd (digit_below p a b r s hr hs e lt)
  | inr ge ↦ elim (cases_lt b a) [
    | inl lt ↦ absurd (digit_below p b a s r hs hr (sym e) lt)
    | inr le ↦
        let same : a ≡ b = omega arith in
        let moved : a * p ≡ b * p = ap (λ (n : ℕ). n * p) same in
        (same, omega arith)
  ]
]

-- lists of n bytes that spell one number are one
pub number_one : (n : ℕ) (xs ys : List ℕ) → length xs ≡ n → length ys ≡ n → AreBytes xs → AreBytes ys → big_from 0 n xs ≡ big_from 0 n ys → xs ≡ ys
number_one zero [] [] p q x y e = refl
number_one zero [] (b ∷ ys) p q x y e = absurd (omega arith)
number_one zero (a ∷ xs) ys p q x y e = absurd (omega arith)
number_one (suc n) [] ys p q x y e = absurd (omega arith)
number_one (suc n) (a ∷ xs) [] p q x y e = absurd (omega arith)
number_one (suc n) (a ∷ xs) (b ∷ ys) p q x y e =
    let left = big_from-cons 0 n a xs in
    let right = big_from-cons 0 n b ys in
    let xs_are : AreBytes xs = λ k. x (suc k) in
    let ys_are : AreBytes ys = λ k. y (suc k) in
    let small = big_from-lt 0 n xs xs_are in
    let small_too = big_from-lt 0 n ys ys_are in
    let whole : a * 256 ^ n + big_from 0 n xs ≡ b * 256 ^ n + big_from 0 n ys = omega (arith, left, right, e) in
    let parts = digit_one (256 ^ n) a b (big_from 0 n xs) (big_from 0 n ys) small small_too whole in
    ap₂ (λ (d : ℕ) (ds : List ℕ). d ∷ ds) parts.0 (number_one n xs ys (omega arith) (omega arith) xs_are ys_are parts.1)

byte_small : (k x : ℕ) → byte_at k x < 256
byte_small zero x = mod-lt x (omega arith)
byte_small (suc k) x = mod-lt _ (omega arith)

bytes_small : (n x : ℕ) → AreBytes (bytes_high_first n x)
bytes_small zero x k = omega arith
bytes_small (suc n) x zero = byte_small n x
bytes_small (suc n) x (suc k) = bytes_small n x k

-- n bytes are those of their number
pub bytes_back : (n : ℕ) (xs : List ℕ) → length xs ≡ n → AreBytes xs → big_bytes n (big_number n xs) ≡ xs
bytes_back n xs long are =
    let number = big_number n xs in
    let small : number < 256 ^ n = big_from-lt 0 n xs are in
    let made = big_bytes n number in
    let back : big_from 0 n made ≡ number = ap (big_from 0 n) (sym (append-nil made)) ∙ big_number-reads_back n number [] small in
    number_one n made xs (length-bytes_high_first n number) long (bytes_small n number) are back
