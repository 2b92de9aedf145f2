-- Laws of binary digits: proved here, for proofs to cite.
use Rattle.std.proofs.Common.{◌≡◌, ℕ, zero, suc, ◌+◌, ◌-◌, ◌*◌, ◌/◌, ◌%◌, ◌^◌, ◌<◌, ◌≤◌, List, ◌∷◌, ◌++◌, sym, ap, subst, ◌∙◌, arith, ◌⊎◌, inl, inr}
use Rattle.std.specs.Int.Count.{count_leading_zeros}
use Rattle.std.proofs.Math.Nat.{pow-le-pow_right, pow-suc, one-mul, zero-mul, zero-add}
use Rattle.std.proofs.lemmas.Nat.{pow_pos, pow-add, leading_length, le-div, shr_below, mod_below}
use Rattle.std.proofs.lemmas.Bool.{cases_lt, cases_order}
use Rattle.bit_io.specs.Bits.{bits, zeros}
use Rattle.bit_io.specs.laws.BitLaws.{bits-add, bits-cat, bits-mod, bits-zero}
use Rattle.prores_codes.specs.Codes.{HasDigits}

pub pow_le : (i j : ℕ) → i ≤ j → 2 ^ i ≤ 2 ^ j
pow_le i j h = pow-le-pow_right (omega arith) h

-- a number below 2 ^ k has at most k digits
pub digits_most : (d k m : ℕ) → HasDigits d m → m < 2 ^ k → d ≤ k
digits_most d k m has h = cases (cases_lt k d)
  where
    cases : (k < d) ⊎ (d ≤ k) → d ≤ k
    cases (inl lt) = absurd (omega (arith, pow_le k (d - 1) (omega arith), has.highest))
    cases (inr le) = le

-- a number from 2 ^ e on has more than e digits
pub digits_more : (d e m : ℕ) → HasDigits d m → 2 ^ e ≤ m → e < d
digits_more d e m has h = cases (cases_lt e d)
  where
    cases : (e < d) ⊎ (d ≤ e) → e < d
    cases (inl lt) = lt
    cases (inr le) = absurd (omega (arith, pow_le d e le, has.all))

pub digits_same : (d d' m : ℕ) → HasDigits d m → HasDigits d' m → d ≡ d'
digits_same d d' m one two = cases (cases_order d d')
  where
    cases : (d ≡ d') ⊎ ((d < d') ⊎ (d' < d)) → d ≡ d'
    cases (inl e) = e
    cases (inr (inl lt)) = absurd (omega (arith, pow_le d (d' - 1) (omega arith), one.all, two.highest))
    cases (inr (inr lt)) = absurd (omega (arith, pow_le d' (d - 1) (omega arith), two.all, one.highest))

-- the digits of a number that isn't zero, by its leading zeros
pub digits_from_leading : (k m : ℕ) → 0 < m → m < 2 ^ k → HasDigits (k - count_leading_zeros k m) m
digits_from_leading k m some h =
    let long = leading_length k m h in
    let size : k - count_leading_zeros k m ≡ long.0 = omega (arith, long.1) in
    let P : ℕ → Type 0 = λ d. HasDigits d m in
    subst P (sym size) (has long.0 long.2 long.3)
  where
    has : (d : ℕ) → m < 2 ^ d → 2 ^ d ≤ 2 * m + 1 → HasDigits d m
    has zero all most = absurd (omega (arith, all))
    has (suc d) all most =
        let less : suc d - 1 ≡ d = omega arith in
        let same : 2 ^ (suc d - 1) ≡ 2 ^ d = ap (λ (j : ℕ). 2 ^ j) less in
        record { some = omega arith; highest = omega (arith, most, pow-suc 2 d, same); all = all }

-- a number of k bits with more bits before it
pub numbered : (z k t : ℕ) → t < 2 ^ k → bits (z + k) t ≡ zeros z ++ bits k t
numbered z k t h =
    ap (bits (z + k)) (sym (zero-add t) ∙ ap (λ (m : ℕ). m + t) (sym (zero-mul (2 ^ k))))
    ∙ (bits-cat z k 0 t h ∙ ap (λ (bs : List ℕ). bs ++ bits k t) (bits-zero z))

-- a one before r bits
one_bits : (r low : ℕ) → low < 2 ^ r → bits (1 + r) (2 ^ r + low) ≡ 1 ∷ bits r low
unfolding bits
one_bits r low h = ap (λ (m : ℕ). bits (1 + r) (m + low)) (sym (one-mul (2 ^ r))) ∙ bits-cat 1 r 1 low h

-- the bits of a short spelling are those of one number
pub short_bits : (r n : ℕ) → zeros (n / 2 ^ r) ++ 1 ∷ bits r n ≡ bits (n / 2 ^ r + (1 + r)) (2 ^ r + n % 2 ^ r)
short_bits r n =
    let low : ℕ = n % 2 ^ r in
    let small : low < 2 ^ r = mod_below n (2 ^ r) (pow_pos r) in
    let wide : 2 ^ r + low < 2 ^ (1 + r) = omega (arith, pow-add 2 1 r) in
    sym (numbered (n / 2 ^ r) (1 + r) (2 ^ r + low) wide
    ∙ ap (λ (bs : List ℕ). zeros (n / 2 ^ r) ++ bs) (one_bits r low small ∙ ap (λ (bs : List ℕ). 1 ∷ bs) (bits-mod r r n (omega arith))))

-- the highest digit is a one
pub highest_digit : (d m : ℕ) → HasDigits d m → bits d m ≡ 1 ∷ bits (d - 1) m
unfolding bits
highest_digit d m has =
    let whole : d ≡ 1 + (d - 1) = omega (arith, has.some) in
    let one : 1 ≤ m / 2 ^ (d - 1) = le-div 1 m (2 ^ (d - 1)) (pow_pos (d - 1)) (omega (arith, has.highest)) in
    let two : m / 2 ^ (d - 1) < 2 ^ 1 = shr_below m 1 (d - 1) (subst (λ (k : ℕ). m < 2 ^ k) whole has.all) in
    let first : m / 2 ^ (d - 1) ≡ 1 = omega arith in
    ap (λ (k : ℕ). bits k m) whole ∙ (bits-add 1 (d - 1) m ∙ ap (λ (b : ℕ). bits 1 b ++ bits (d - 1) m) first)
