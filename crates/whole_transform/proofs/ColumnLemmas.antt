-- Sums over the basis by the upper and the lower halves of the values.
use Rattle.std.proofs.Common.{◌≡◌, ◌∙◌, sym, ℕ, ◌+◌, ◌-◌, ◌*◌, ◌<◌, arith, ℤ, pos, ◌+ℤ◌, ◌-ℤ◌, ◌*ℤ◌, lit<}
use Rattle.std.proofs.lemmas.Int.{ints}
use Rattle.whole_transform.specs.Sums.{sum_to}
use Rattle.whole_transform.specs.Transform.{basis, turn, cosine}
use Rattle.whole_transform.proofs.EachLemmas.{below_two}
use Rattle.whole_transform.proofs.Halves.{even_sums, mirrored_even, mirrored_odd}
use Rattle.whole_transform.proofs.SumLemmas.{sum_split}
use Rattle.whole_transform.proofs.WordLemmas.{joined_kept}

-- the sums of eight values with the even basis numbers, by the upper and the lower halves of the folded values
pub even_by_halves : (f m g high low above below : ℕ → ℤ) → ((k : ℕ) → k < 4 → m k ≡ f k +ℤ f (7 - k)) →
    ((k : ℕ) → k < 2 → g k ≡ m k +ℤ m (3 - k)) → ((k : ℕ) → k < 2 → g (2 + k) ≡ m k -ℤ m (3 - k)) →
    ((k : ℕ) → k < 4 → g k ≡ pos 65536 *ℤ high k +ℤ low k) →
    ((k : ℕ) → k < 2 → above (2 * k) ≡ basis (4 * k) 0 *ℤ high 0 +ℤ basis (4 * k) 1 *ℤ high 1) →
    ((k : ℕ) → k < 2 → above (2 * k + 1) ≡ basis (4 * k + 2) 0 *ℤ high 2 +ℤ basis (4 * k + 2) 1 *ℤ high 3) →
    ((k : ℕ) → k < 2 → below (2 * k) ≡ basis (4 * k) 0 *ℤ low 0 +ℤ basis (4 * k) 1 *ℤ low 1) →
    ((k : ℕ) → k < 2 → below (2 * k + 1) ≡ basis (4 * k + 2) 0 *ℤ low 2 +ℤ basis (4 * k + 2) 1 *ℤ low 3) →
    (k : ℕ) → k < 4 → pos 65536 *ℤ above k +ℤ below k ≡ sum_to 8 (λ j. basis (2 * k) j *ℤ f j)
unfolding basis turn cosine
even_by_halves f m g high low above below mirrored sums differences whole above_fourth above_second below_fourth below_second k lt =
    let zeroth = whole 0 (lit< tt) in let first = whole 1 (lit< tt) in let second = whole 2 (lit< tt) in let third = whole 3 (lit< tt) in
    let above_0 = above_fourth 0 (lit< tt) in let above_1 = above_second 0 (lit< tt) in let above_2 = above_fourth 1 (lit< tt) in let above_3 = above_second 1 (lit< tt) in
    let below_0 = below_fourth 0 (lit< tt) in let below_1 = below_second 0 (lit< tt) in let below_2 = below_fourth 1 (lit< tt) in let below_3 = below_second 1 (lit< tt) in
    even_sums m g (λ j. pos 65536 *ℤ above j +ℤ below j) sums differences
    (below_two _ (omega (arith, ints)) (omega (arith, ints))) (below_two _ (omega (arith, ints)) (omega (arith, ints))) k lt
    ∙ mirrored_even f m mirrored k lt

-- the same with the odd ones
pub odd_by_halves : (f m high low above below : ℕ → ℤ) → ((k : ℕ) → k < 4 → m k ≡ f k -ℤ f (7 - k)) →
    ((k : ℕ) → k < 4 → m k ≡ pos 65536 *ℤ high k +ℤ low k) →
    ((k : ℕ) → k < 4 → above k ≡ sum_to 4 (λ j. basis (2 * k + 1) j *ℤ high j)) → ((k : ℕ) → k < 4 → below k ≡ sum_to 4 (λ j. basis (2 * k + 1) j *ℤ low j)) →
    (k : ℕ) → k < 4 → pos 65536 *ℤ above k +ℤ below k ≡ sum_to 8 (λ j. basis (2 * k + 1) j *ℤ f j)
odd_by_halves f m high low above below mirrored whole sums_above sums_below k lt =
    joined_kept (sums_above k lt) (sums_below k lt)
    ∙ sym (sum_split 4 (pos 65536) (basis (2 * k + 1)) m high low whole)
    ∙ mirrored_odd f m mirrored k lt
