-- Sums over places, and the set bits of a word.
use Rattle.std.proofs.Common.{◌≡◌, ◌⊎◌, inl, inr, ℕ, zero, suc, ◌+◌, ◌/◌, ◌%◌, ◌^◌, ◌≤◌, ◌<◌, ◌∙◌, arith, subst, count_ones}
use Rattle.std.specs.Int.{bit_at}
use Rattle.std.proofs.lemmas.Bool.{cases_lt}
use Rattle.std.proofs.lemmas.Nat.{ones-le, shr_below}
use Rattle.std.proofs.lemmas.Nat.Bits.{bit_at_lowest, bit_at-suc}
use Rattle.slice_parts.specs.inner.Counted.{sum_to}
use lib.Count.{ones_step}

-- a sum of smaller values is smaller
pub sum_less : (n : ℕ) (f g : ℕ → ℕ) → ((i : ℕ) → i < n → f i ≤ g i) → sum_to n f ≤ sum_to n g
unfolding sum_to
sum_less zero f g h = omega arith
sum_less (suc n) f g h = omega (arith, h 0 (omega arith), sum_less n (λ i. f (suc i)) (λ i. g (suc i)) (λ i lt. h (suc i) (omega (arith, lt))))

-- the sum of sums
pub sum_add : (n : ℕ) (f g : ℕ → ℕ) → sum_to n (λ i. f i + g i) ≡ sum_to n f + sum_to n g
unfolding sum_to
sum_add zero f g = omega arith
sum_add (suc n) f g = omega (arith, sum_add n (λ i. f (suc i)) (λ i. g (suc i)))

-- the set bits of a word are as many as its places at most that count
pub ones_low : (n m : ℕ) (f : ℕ → ℕ) → m < 2 ^ n → ((i : ℕ) → i < n → bit_at m i ≡ 1 → 1 ≤ f i) → count_ones m ≤ sum_to n f
unfolding sum_to
ones_low zero m f small h = omega (arith, ones-le 0 m small)
ones_low (suc n) m f small h = omega (arith, ones_step m, first, ones_low n (m / 2) (λ i. f (suc i)) half (λ i lt e. h (suc i) (omega (arith, lt)) (bit_at-suc m i ∙ e)))
  where
    half : m / 2 < 2 ^ n
    half =
        let more : suc n ≡ n + 1 = omega arith in
        shr_below m n 1 (subst (λ (k : ℕ). m < 2 ^ k) more small)

    cases : (m % 2 < 1) ⊎ (1 ≤ m % 2) → m % 2 ≤ f 0
    cases (inl even) = omega (arith, even)
    cases (inr odd) = omega (arith, odd, h 0 (omega arith) (bit_at_lowest m ∙ omega (arith, odd)))

    first : m % 2 ≤ f 0
    first = cases (cases_lt (m % 2) 1)
