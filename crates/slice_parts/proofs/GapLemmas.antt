-- Marks near a place, and the runs that they tell.
use Rattle.std.proofs.Common.{◌≡◌, ◌⊎◌, inl, inr, ℕ, zero, suc, ◌+◌, ◌-◌, ◌*◌, ◌/◌, ◌%◌, ◌^◌, ◌≤◌, ◌<◌, ◌∙◌, arith, ap, sym, List, length, slice_index, bit_and, bit_or, count_ones, w64, max, min}
use Rattle.std.specs.Int.{bit_at, bit_not}
use Rattle.std.proofs.lemmas.Bool.{cases_lt}
use Rattle.std.proofs.lemmas.Nat.{and_le_l, and_le_r, shr-shr, shr_split, pow_pos}
use Rattle.std.proofs.lemmas.Nat.Bits.{bit_at_and, bit_at_or, bit_at_not, bit_at-lt, bit_at-zero, bit_at_cat_low, bit_at_cat_high}
use Rattle.slice_parts.specs.laws.LeastBits.{reached}
use Rattle.slice_parts.specs.inner.Counted.{sum_to, run_at, gap, AreSome, Carries, AreClear, AreNear, IsBack}
use Rattle.slice_parts.proofs.CountLemmas.{ones_low}
use Rattle.slice_parts.proofs.RunLemmas.{run_long}

-- the bits that a word keeps
kept_bit : (x w i : ℕ) → i < w → bit_at (x % 2 ^ w) i ≡ bit_at x i
kept_bit x w i lt = sym (bit_at_cat_low (x / 2 ^ w) w (x % 2 ^ w) i lt) ∙ ap (λ (n : ℕ). bit_at n i) (shr_split x w)

-- a bit that was moved up
moved_bit : (marks j k : ℕ) → bit_at (marks * 2 ^ j) (k + j) ≡ bit_at marks k
moved_bit marks j k =
    let plain : marks * 2 ^ j + 0 ≡ marks * 2 ^ j = omega arith in
    let there : k + j - j ≡ k = omega arith in
    ap (λ (n : ℕ). bit_at n (k + j)) (sym plain) ∙ (bit_at_cat_high marks j 0 (k + j) (pow_pos j) (omega arith) ∙ ap (λ (n : ℕ). bit_at marks n) there)

pub back_is : (marks before j : ℕ) → j ≤ 8 → IsBack marks before j (bit_or (marks * 2 ^ j % 2 ^ 64) (before / 2 ^ (64 - j)))
back_is marks before j few = record {
  here = λ i k lt e none.
      let both = sym (bit_at_or (marks * 2 ^ j % 2 ^ 64) (before / 2 ^ (64 - j)) i) ∙ none in
      let low : bit_at (marks * 2 ^ j % 2 ^ 64) i ≡ 0 = omega (arith, both) in
      sym (moved_bit marks j k) ∙ (ap (λ (n : ℕ). bit_at (marks * 2 ^ j) n) e ∙ (sym (kept_bit (marks * 2 ^ j) 64 i lt) ∙ low));
  back = λ i p lt p_lt e none.
      let both = sym (bit_at_or (marks * 2 ^ j % 2 ^ 64) (before / 2 ^ (64 - j)) i) ∙ none in
      let low : bit_at (before / 2 ^ (64 - j)) i ≡ 0 = omega (arith, both) in
      let there : p ≡ 64 - j + i = omega (arith, e, few) in
      ap (λ (n : ℕ). bit_at before n) there ∙ (sym (ap (λ (n : ℕ). n % 2) (shr-shr before (64 - j) i)) ∙ low);
}

-- one place farther
pub near_more : (marks before j near word : ℕ) → 1 ≤ j → AreNear marks before (j - 1) near → IsBack marks before j word → AreNear marks before j (bit_or near word)
near_more marks before j near word some are is i lt none = record {
  here = λ k k_lt reach. here k k_lt reach (cases_lt (k + j) (i + 1));
  back = λ p p_lt reach. back p p_lt reach (cases_lt (p + j) (64 + i + 1));
}
  where
    both : max (bit_at near i) (bit_at word i) ≡ 0
    both = sym (bit_at_or near word i) ∙ none

    left : bit_at near i ≡ 0
    left = omega (arith, both)

    right : bit_at word i ≡ 0
    right = omega (arith, both)

    here : (k : ℕ) → k < i → i ≤ k + j → (k + j < i + 1) ⊎ (i + 1 ≤ k + j) → bit_at marks k ≡ 0
    here k k_lt reach (inl last) = is.here i k lt (omega (arith, reach, last)) right
    here k k_lt reach (inr nearer) = (are i lt left).here k k_lt (omega (arith, nearer, some))

    back : (p : ℕ) → p < 64 → 64 + i ≤ p + j → (p + j < 64 + i + 1) ⊎ (64 + i + 1 ≤ p + j) → bit_at before p ≡ 0
    back p p_lt reach (inl last) = is.back i p lt p_lt (omega (arith, reach, last)) right
    back p p_lt reach (inr nearer) = (are i lt left).back p p_lt (omega (arith, nearer, some))

-- a bit below those that were moved in is 0
low_bit : (x j i : ℕ) → i < j → bit_at (x * 2 ^ j) i ≡ 0
low_bit x j i lt =
    let plain : x * 2 ^ j + 0 ≡ x * 2 ^ j = omega arith in
    ap (λ (n : ℕ). bit_at n i) (sym plain) ∙ (bit_at_cat_low x j 0 i lt ∙ bit_at-zero i)

-- a bit that is set in a word that was moved up stood so many places lower
moved_from : (x j i : ℕ) → i < 64 → bit_at (x * 2 ^ j % 2 ^ 64) i ≡ 1 → (k : ℕ) × (k + j ≡ i) × (bit_at x k ≡ 1)
moved_from x j i lt set = cases (cases_lt i j)
  where
    whole : bit_at (x * 2 ^ j) i ≡ 1
    whole = sym (kept_bit (x * 2 ^ j) 64 i lt) ∙ set

    cases : (i < j) ⊎ (j ≤ i) → (k : ℕ) × (k + j ≡ i) × (bit_at x k ≡ 1)
    cases (inl low) = absurd (omega (arith, whole, low_bit x j i low))
    cases (inr high) =
        let there : i - j + j ≡ i = omega (arith, high) in
        (i - j, there, sym (moved_bit x j (i - j)) ∙ (ap (λ (n : ℕ). bit_at (x * 2 ^ j) n) there ∙ whole))

-- no mark is near a place, nor near the one that is as far before it
pub near_far : (marks before r near clear : ℕ) → near < 2 ^ 64 → clear ≡ bit_not w64 near → AreNear marks before r near
    → AreNear marks before (r + r) (bit_not w64 (bit_and clear (clear * 2 ^ r % 2 ^ 64)))
near_far marks before r near clear small is are i lt none = record {
  here = λ k k_lt reach. here k k_lt reach (cases_lt k lower.0);
  back = λ p p_lt reach. (are lower.0 (omega (arith, lower.1, lt)) below).back p p_lt (omega (arith, lower.1, reach));
}
  where
    word : ℕ
    word = bit_and clear (clear * 2 ^ r % 2 ^ 64)

    short : word < 2 ^ 64
    short = omega (arith, and_le_r clear (clear * 2 ^ r % 2 ^ 64))

    set : min (bit_at clear i) (bit_at (clear * 2 ^ r % 2 ^ 64) i) ≡ 1
    set = sym (bit_at_and clear (clear * 2 ^ r % 2 ^ 64) i) ∙ omega (arith, none, bit_at_not w64 word i short (omega (arith, lt)), bit_at-lt word i)

    one : (k : ℕ) → k < 64 → bit_at clear k ≡ 1 → bit_at near k ≡ 0
    one k k_lt e = omega (arith, e, ap (λ (n : ℕ). bit_at n k) is, bit_at_not w64 near k small (omega (arith, k_lt)))

    lower : (k : ℕ) × (k + r ≡ i) × (bit_at clear k ≡ 1)
    lower = moved_from clear r i lt (omega (arith, set, bit_at-lt clear i, bit_at-lt (clear * 2 ^ r % 2 ^ 64) i))

    above : bit_at near i ≡ 0
    above = one i lt (omega (arith, set, bit_at-lt clear i, bit_at-lt (clear * 2 ^ r % 2 ^ 64) i))

    below : bit_at near lower.0 ≡ 0
    below = one lower.0 (omega (arith, lower.1, lt)) lower.2

    here : (k : ℕ) → k < i → i ≤ k + (r + r) → (k < lower.0) ⊎ (lower.0 ≤ k) → bit_at marks k ≡ 0
    here k k_lt reach (inl low) = (are lower.0 (omega (arith, lower.1, lt)) below).here k low (omega (arith, lower.1, reach))
    here k k_lt reach (inr high) = (are i lt above).here k k_lt (omega (arith, lower.1, high))

-- none is nearer than the next
pub near_none : (marks before : ℕ) → AreNear marks before 0 0
near_none marks before i lt none = record {
  here = λ k k_lt reach. absurd (omega (arith, k_lt, reach));
  back = λ p p_lt reach. absurd (omega (arith, p_lt, reach));
}

-- a size without a mark is 0
unmarked : (sizes : List ℕ) (n marks i : ℕ) → AreSome sizes n marks → i < n → bit_at marks i ≡ 0 → slice_index sizes i ≡ 0
unmarked sizes n marks i are lt none = cases (cases_lt (slice_index sizes i) 1)
  where
    cases : (slice_index sizes i < 1) ⊎ (1 ≤ slice_index sizes i) → slice_index sizes i ≡ 0
    cases (inl small) = omega (arith, small)
    cases (inr large) = absurd (omega (arith, none, (are.each i lt).1 large))

-- where no mark is near the run is long
pub clear_run : (marks before r n run i : ℕ) (sizes : List ℕ) → r ≤ 16 → n ≤ length sizes → i ≤ n → Carries before run → AreSome sizes n marks
    → AreClear marks before i r → r ≤ run_at i run sizes
clear_run marks before r n run i sizes few long inside carries are clear =
    run_long r i run sizes (omega (arith, inside, long)) (λ k lt near. unmarked sizes n marks k are (omega (arith, lt, inside)) (clear.here k lt near))
    (λ lt. omega (arith, lt, carries (r - i) (omega (arith, few)) (λ p p_lt high. clear.back p p_lt (omega (arith, high, lt)))))

gap_some : (r size run : ℕ) → 1 ≤ size → r ≤ run → 1 ≤ gap r size run
gap_some r zero run some long = absurd (omega (arith, some))
gap_some r (suc n) run some long = omega (arith, reached r run long)

pub gaps_low : (marks near before r n run : ℕ) (sizes : List ℕ) → near < 2 ^ 64 → r ≤ 16 → n ≤ 64 → n ≤ length sizes → AreNear marks before r near
    → Carries before run → AreSome sizes n marks
    → count_ones (bit_and marks (bit_not w64 near)) ≤ sum_to n (λ i. gap r (slice_index sizes i) (run_at i run sizes))
gaps_low marks near before r n run sizes small few wide long are carries some =
    ones_low n (bit_and marks (bit_not w64 near)) (λ i. gap r (slice_index sizes i) (run_at i run sizes)) (omega (arith, some.small, and_le_l marks (bit_not w64 near)))
    (λ i lt set. one i lt set)
  where
    one : (i : ℕ) → i < n → bit_at (bit_and marks (bit_not w64 near)) i ≡ 1 → 1 ≤ gap r (slice_index sizes i) (run_at i run sizes)
    one i lt set =
        let both = sym (bit_at_and marks (bit_not w64 near) i) ∙ set in
        let not_near = bit_at_not w64 near i small (omega (arith, lt, wide)) in
        let mark : bit_at marks i ≡ 1 = omega (arith, both, bit_at-lt marks i) in
        let none : bit_at near i ≡ 0 = omega (arith, both, not_near) in
        gap_some r (slice_index sizes i) (run_at i run sizes) ((some.each i lt).0 mark)
        (clear_run marks before r n run i sizes few long (omega (arith, lt)) carries some (are i (omega (arith, lt, wide)) none))

-- the marks of a word, moved to its end, carry its run on
pub carries_on : (marks skip before run : ℕ) (sizes : List ℕ) → skip ≤ 32 → 64 - skip ≤ length sizes → AreSome sizes (64 - skip) marks
    → Carries (marks * 2 ^ skip % 2 ^ 64) (run_at (64 - skip) run sizes)
carries_on marks skip before run sizes few long are r r_few none =
    run_long r (64 - skip) run sizes long (λ k lt near. unmarked sizes (64 - skip) marks k are lt (bit k lt near)) (λ lt. absurd (omega (arith, lt, few, r_few)))
  where
    bit : (k : ℕ) → k < 64 - skip → 64 - skip ≤ k + r → bit_at marks k ≡ 0
    bit k lt near =
        sym (moved_bit marks skip k) ∙ (sym (kept_bit (marks * 2 ^ skip) 64 (k + skip) (omega (arith, lt, few))) ∙ none (k + skip) (omega (arith, lt, few)) (omega (arith, near, few)))

-- the word before the first AC level has a mark at each place
pub carries_none : Carries (2 ^ 64 - 1) 0
carries_none r few none = cases (cases_lt 0 r)
  where
    cases : (0 < r) ⊎ (r ≤ 0) → r ≤ 0
    cases (inl some) = absurd (omega (arith, none 63 (omega arith) (omega (arith, some))))
    cases (inr small) = small
