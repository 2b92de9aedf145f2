-- Bytes are those of the number that they spell.
use Rattle.std.proofs.Common.{◌≡◌, inl, inr, ℕ, zero, suc, ◌+◌, ◌*◌, ◌^◌, ◌<◌, ◌≤◌, List, [], ◌∷◌, length, take, refl, sym, ap, ap₂, ◌∙◌, arith, append-nil}
use Rattle.std.proofs.lemmas.Bool.{cases_lt}
use Rattle.std.proofs.lemmas.List.{length-take-le}
use Rattle.std.proofs.Math.Nat.{mod-lt, mul-le-mul_right, add-mul}
use Rattle.std.specs.Int.{byte_at, bytes_high_first}
use Rattle.byteorder.specs.Endian.{big_from, big_bytes, big_number}
use Rattle.byteorder.specs.Numbers.{big_from-cons, big_from-lt, big_from-take, big_number-reads_back, length-bytes_high_first}
use Rattle.rec_bytes.specs.laws.Bytes.{AreBytes, taken_bytes}

-- of two numbers with one lower part below p, the greater first digit gives the greater
less_first : (p a b r s : ℕ) → r < p → a * p + r ≡ b * p + s → a < b → ⊥
less_first p a b r s small e less =
    let more : (a + 1) * p ≤ b * p = mul-le-mul_right p (omega arith) in
    let expand : (a + 1) * p ≡ a * p + 1 * p = add-mul a 1 p in
    omega arith

-- so a number tells its first digit and what is below it
same_digits : (p a b r s : ℕ) → r < p → s < p → a * p + r ≡ b * p + s → (a ≡ b) × (r ≡ s)
same_digits p a b r s small_r small_s e = elim (cases_lt a b) [
  | inl less ↦ absurd (less_first p a b r s small_r e less)
  | inr most ↦ elim (cases_lt b a) [
    | inl less ↦ absurd (less_first p b a s r small_s (sym e) less)
    | inr least ↦
        let same : a ≡ b = omega arith in
        let scaled : a * p ≡ b * p = ap (λ (n : ℕ). n * p) same in
        (same, omega arith)
  ]
]

-- n bytes are told by their number
same_bytes : (n : ℕ) (xs ys : List ℕ) → length xs ≡ n → length ys ≡ n → AreBytes xs → AreBytes ys → big_number n xs ≡ big_number n ys → xs ≡ ys
same_bytes zero [] [] p q x y e = refl
same_bytes zero [] (b ∷ ys) p q x y e = absurd (omega arith)
same_bytes zero (a ∷ xs) ys p q x y e = absurd (omega arith)
same_bytes (suc n) [] ys p q x y e = absurd (omega arith)
same_bytes (suc n) (a ∷ xs) [] p q x y e = absurd (omega arith)
same_bytes (suc n) (a ∷ xs) (b ∷ ys) p q x y e =
    let left = big_from-cons 0 n a xs in
    let right = big_from-cons 0 n b ys in
    let bytes_x : AreBytes xs = λ k. x (suc k) in
    let bytes_y : AreBytes ys = λ k. y (suc k) in
    let small_x = big_from-lt 0 n xs bytes_x in
    let small_y = big_from-lt 0 n ys bytes_y in
    let both : a * 256 ^ n + big_from 0 n xs ≡ b * 256 ^ n + big_from 0 n ys = omega (arith, left, right, e) in
    let parts = same_digits (256 ^ n) a b (big_from 0 n xs) (big_from 0 n ys) small_x small_y both in
    ap₂ (λ (d : ℕ) (ds : List ℕ). d ∷ ds) parts.0 (same_bytes n xs ys (omega arith) (omega arith) bytes_x bytes_y parts.1)

-- a digit of a number is a byte
digit_small : (k x : ℕ) → byte_at k x < 256
digit_small zero x = mod-lt x (omega arith)
digit_small (suc k) x = mod-lt _ (omega arith)

-- and so are all of them
spelled_bytes : (n x : ℕ) → AreBytes (bytes_high_first n x)
spelled_bytes zero x k = omega arith
spelled_bytes (suc n) x zero = digit_small n x
spelled_bytes (suc n) x (suc k) = spelled_bytes n x k

-- n bytes that spell a number are its bytes
pub bytes_of : (n x : ℕ) (xs : List ℕ) → length xs ≡ n → AreBytes xs → big_number n xs ≡ x → xs ≡ big_bytes n x
bytes_of n x xs long are e =
    let small : x < 256 ^ n = omega (arith, big_from-lt 0 n xs are, e) in
    let made : List ℕ = big_bytes n x in
    let back : big_number n made ≡ x = ap (big_number n) (sym (append-nil made)) ∙ big_number-reads_back n x [] small in
    same_bytes n xs made long (length-bytes_high_first n x) are (spelled_bytes n x) (e ∙ sym back)

-- the first n bytes of more
pub front_of : (n x : ℕ) (xs : List ℕ) → n ≤ length xs → AreBytes xs → big_number n xs ≡ x → take n xs ≡ big_bytes n x
front_of n x xs room are e =
    bytes_of n x (take n xs) (length-take-le n xs room) (taken_bytes n xs are) (big_from-take 0 n n xs (omega arith) ∙ e)
