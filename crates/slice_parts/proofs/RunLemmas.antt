-- Runs of zeros before a place, and what the bound counts up to it.
use Rattle.std.proofs.Common.{◌≡◌, ℕ, zero, suc, ◌+◌, ◌≤◌, ◌<◌, arith, refl, List, [], ◌∷◌, length, drop, slice_index}
use Rattle.slice_parts.specs.Bound.{ac_bound}
use Rattle.slice_parts.specs.inner.Counted.{sum_to, run_at, cost}

-- what is counted of the sizes up to a place, where each counts no more than the bound does
pub front_low : (n : ℕ) (f : ℕ → ℕ) (run : ℕ) (sizes : List ℕ) → n ≤ length sizes
    → ((i : ℕ) → i < n → f i ≤ cost (run_at i run sizes) (slice_index sizes i))
    → sum_to n f + ac_bound (run_at n run sizes) (drop n sizes) ≤ ac_bound run sizes
unfolding sum_to
front_low zero f run sizes inside low = omega arith
front_low (suc n) f run [] inside low = absurd (omega (arith, inside))
front_low (suc n) f run (zero ∷ sizes) inside low =
    omega (arith, low 0 (omega arith), front_low n (λ i. f (suc i)) (run + 1) sizes (omega (arith, inside)) (λ i lt. low (suc i) (omega (arith, lt))))
front_low (suc n) f run (suc m ∷ sizes) inside low =
    omega (arith, low 0 (omega arith), front_low n (λ i. f (suc i)) 0 sizes (omega (arith, inside)) (λ i lt. low (suc i) (omega (arith, lt))))

-- a run goes on through a zero
run_more : (i run : ℕ) (sizes : List ℕ) → i < length sizes → slice_index sizes i ≡ 0 → run_at (suc i) run sizes ≡ run_at i run sizes + 1
run_more i run [] inside none = absurd (omega (arith, inside))
run_more zero run (zero ∷ sizes) inside none = refl
run_more zero run (suc n ∷ sizes) inside none = absurd (omega (arith, none))
run_more (suc i) run (zero ∷ sizes) inside none = run_more i (run + 1) sizes (omega (arith, inside)) none
run_more (suc i) run (suc n ∷ sizes) inside none = run_more i 0 sizes (omega (arith, inside)) none

-- behind so many zeros the run is as long or longer, where the run before the list makes up for those that it lacks
pub run_long : (r i run : ℕ) (sizes : List ℕ) → i ≤ length sizes → ((k : ℕ) → k < i → i ≤ k + r → slice_index sizes k ≡ 0)
    → (i < r → r ≤ run + i) → r ≤ run_at i run sizes
run_long zero i run sizes inside none carry = omega arith
run_long (suc r) zero run sizes inside none carry = omega (arith, carry (omega arith))
run_long (suc r) (suc i) run sizes inside none carry =
    omega (
      arith,
      run_more i run sizes (omega (arith, inside)) (none i (omega arith) (omega arith)),
      run_long r i run sizes (omega (arith, inside)) (λ k lt near. none k (omega (arith, lt)) (omega (arith, near))) (λ lt. omega (arith, carry (omega (arith, lt)))),
    )
