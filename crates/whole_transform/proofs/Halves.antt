-- Sums over the basis by even and odd halves.
use Rattle.std.proofs.Common.{◌≡◌, ℕ, ◌+◌, ◌-◌, ◌*◌, ◌<◌, ◌≤◌, arith, ℤ, ◌+ℤ◌, ◌-ℤ◌, ◌*ℤ◌, lit<}
use Rattle.std.proofs.Math.Nat.{le_trans, le_refl}
use Rattle.std.proofs.lemmas.Int.{ints}
use Rattle.std.specs.Int.RustNames.{unsigned_abs}
use Rattle.whole_transform.specs.Sums.{sum_to}
use Rattle.whole_transform.specs.inner.Passes.{even_of, inverse_of, odd_of}
use Rattle.whole_transform.specs.Transform.{basis, turn, cosine}
use Rattle.whole_transform.proofs.EachLemmas.{below_four, below_eight}
use Rattle.whole_transform.proofs.SumLemmas.{abs-mul-le, total, sum_bound}

-- an even basis number is the same at mirrored places
pub mirrored_even : (f g : ℕ → ℤ) → ((j : ℕ) → j < 4 → g j ≡ f j +ℤ f (7 - j)) →
    (k : ℕ) → k < 4 → sum_to 4 (λ j. basis (2 * k) j *ℤ g j) ≡ sum_to 8 (λ j. basis (2 * k) j *ℤ f j)
unfolding sum_to basis turn cosine
mirrored_even f g h =
    let zeroth = h 0 (lit< tt) in
    let first = h 1 (lit< tt) in
    let second = h 2 (lit< tt) in
    let third = h 3 (lit< tt) in
    below_four _ (omega (arith, ints)) (omega (arith, ints)) (omega (arith, ints)) (omega (arith, ints))

-- an odd one changes its sign there
pub mirrored_odd : (f g : ℕ → ℤ) → ((j : ℕ) → j < 4 → g j ≡ f j -ℤ f (7 - j)) →
    (k : ℕ) → k < 4 → sum_to 4 (λ j. basis (2 * k + 1) j *ℤ g j) ≡ sum_to 8 (λ j. basis (2 * k + 1) j *ℤ f j)
unfolding sum_to basis turn cosine
mirrored_odd f g h =
    let zeroth = h 0 (lit< tt) in
    let first = h 1 (lit< tt) in
    let second = h 2 (lit< tt) in
    let third = h 3 (lit< tt) in
    below_four _ (omega (arith, ints)) (omega (arith, ints)) (omega (arith, ints)) (omega (arith, ints))

-- the even half by sums and differences of mirrored values
pub even_sums : (f g r : ℕ → ℤ) → ((k : ℕ) → k < 2 → g k ≡ f k +ℤ f (3 - k)) → ((k : ℕ) → k < 2 → g (2 + k) ≡ f k -ℤ f (3 - k)) →
    ((k : ℕ) → k < 2 → r (2 * k) ≡ basis (4 * k) 0 *ℤ g 0 +ℤ basis (4 * k) 1 *ℤ g 1) →
    ((k : ℕ) → k < 2 → r (2 * k + 1) ≡ basis (4 * k + 2) 0 *ℤ g 2 +ℤ basis (4 * k + 2) 1 *ℤ g 3) →
    (k : ℕ) → k < 4 → r k ≡ sum_to 4 (λ j. basis (2 * k) j *ℤ f j)
unfolding sum_to basis turn cosine
even_sums f g r sums differences fourth second =
    let outer_sum = sums 0 (lit< tt) in
    let inner_sum = sums 1 (lit< tt) in
    let outer_difference = differences 0 (lit< tt) in
    let inner_difference = differences 1 (lit< tt) in
    let at_0 = fourth 0 (lit< tt) in
    let at_1 = second 0 (lit< tt) in
    let at_2 = fourth 1 (lit< tt) in
    let at_3 = second 1 (lit< tt) in
    below_four _ (omega (arith, ints)) (omega (arith, ints)) (omega (arith, ints)) (omega (arith, ints))

-- the even half by columns, its sums begun with a number
pub even_columns_from : (start : ℤ) (f z y r : ℕ → ℤ) (a b c d : ℤ) → a ≡ f 0 → b ≡ f 2 → c ≡ f 1 → d ≡ f 3 →
    ((k : ℕ) → k < 2 → z (2 * k) ≡ basis (4 * k) 0 *ℤ a +ℤ basis (4 * k) 1 *ℤ b) →
    ((k : ℕ) → k < 2 → z (2 * k + 1) ≡ basis (4 * k + 2) 0 *ℤ c +ℤ basis (4 * k + 2) 1 *ℤ d) →
    ((k : ℕ) → k < 2 → y (2 * k) ≡ start +ℤ z (2 * k)) → ((k : ℕ) → k < 2 → y (2 * k + 1) ≡ z (2 * k + 1)) →
    (r 0 ≡ y 0 +ℤ y 1) × (r 3 ≡ y 0 -ℤ y 1) → (r 1 ≡ y 2 +ℤ y 3) × (r 2 ≡ y 2 -ℤ y 3) →
    (j : ℕ) → j < 4 → r j ≡ start +ℤ sum_to 4 (λ k. basis (2 * k) j *ℤ f k)
unfolding sum_to basis turn cosine
even_columns_from start f z y r a b c d same_0 same_2 same_1 same_3 fourth second begun same outer inner =
    let begun_0 = begun 0 (lit< tt) in
    let begun_2 = begun 1 (lit< tt) in
    let kept_1 = same 0 (lit< tt) in
    let kept_3 = same 1 (lit< tt) in
    let at_0 = fourth 0 (lit< tt) in
    let at_1 = second 0 (lit< tt) in
    let at_2 = fourth 1 (lit< tt) in
    let at_3 = second 1 (lit< tt) in
    below_four _ (omega (arith, ints)) (omega (arith, ints)) (omega (arith, ints)) (omega (arith, ints))

-- all eight sums by columns: the halves added at the first four places and subtracted at their mirrored ones
pub joined_halves : (f g h even odd r : ℕ → ℤ) → ((k : ℕ) → k < 4 → g k ≡ f (2 * k)) → ((k : ℕ) → k < 4 → h k ≡ f (2 * k + 1)) →
    ((j : ℕ) → j < 4 → even j ≡ sum_to 4 (λ k. basis (2 * k) j *ℤ g k)) →
    ((j : ℕ) → j < 4 → odd j ≡ sum_to 4 (λ k. basis (2 * j + 1) k *ℤ h k)) →
    ((j : ℕ) → j < 4 → r j ≡ even j +ℤ odd j) → ((j : ℕ) → j < 4 → r (7 - j) ≡ even j -ℤ odd j) →
    (j : ℕ) → j < 8 → r j ≡ sum_to 8 (λ k. basis k j *ℤ f k)
unfolding sum_to basis turn cosine
joined_halves f g h even odd r evens odds even_sum odd_sum first last =
    let g_0 = evens 0 (lit< tt) in let g_1 = evens 1 (lit< tt) in let g_2 = evens 2 (lit< tt) in let g_3 = evens 3 (lit< tt) in
    let h_0 = odds 0 (lit< tt) in let h_1 = odds 1 (lit< tt) in let h_2 = odds 2 (lit< tt) in let h_3 = odds 3 (lit< tt) in
    below_eight _
    (let e = even_sum 0 (lit< tt) in let o = odd_sum 0 (lit< tt) in let s = first 0 (lit< tt) in omega (arith, ints))
    (let e = even_sum 1 (lit< tt) in let o = odd_sum 1 (lit< tt) in let s = first 1 (lit< tt) in omega (arith, ints))
    (let e = even_sum 2 (lit< tt) in let o = odd_sum 2 (lit< tt) in let s = first 2 (lit< tt) in omega (arith, ints))
    (let e = even_sum 3 (lit< tt) in let o = odd_sum 3 (lit< tt) in let s = first 3 (lit< tt) in omega (arith, ints))
    (let e = even_sum 3 (lit< tt) in let o = odd_sum 3 (lit< tt) in let s = last 3 (lit< tt) in omega (arith, ints))
    (let e = even_sum 2 (lit< tt) in let o = odd_sum 2 (lit< tt) in let s = last 2 (lit< tt) in omega (arith, ints))
    (let e = even_sum 1 (lit< tt) in let o = odd_sum 1 (lit< tt) in let s = last 1 (lit< tt) in omega (arith, ints))
    (let e = even_sum 0 (lit< tt) in let o = odd_sum 0 (lit< tt) in let s = last 0 (lit< tt) in omega (arith, ints))

-- the odd basis numbers at the first four places are the same by rows and by columns
pub odd_turned : (f : ℕ → ℤ) (j : ℕ) → j < 4 → sum_to 4 (λ k. basis (2 * j + 1) k *ℤ f k) ≡ sum_to 4 (λ k. basis (2 * k + 1) j *ℤ f k)
unfolding sum_to basis turn cosine
odd_turned f = below_four (λ j. sum_to 4 (λ k. basis (2 * j + 1) k *ℤ f k) ≡ sum_to 4 (λ k. basis (2 * k + 1) j *ℤ f k))
    (omega (arith, ints)) (omega (arith, ints)) (omega (arith, ints)) (omega (arith, ints))

-- two of the eight sums, each begun with a number, from the even and the odd part at one of the first four places
pub mirrored_sums : (start : ℤ) (f : ℕ → ℤ) (k : ℕ) → k < 4 → (even odd : ℤ) → even ≡ even_of start f k → odd ≡ odd_of f k →
    (even +ℤ odd ≡ start +ℤ inverse_of f k) × (even -ℤ odd ≡ start +ℤ inverse_of f (7 - k))
unfolding sum_to basis turn cosine
mirrored_sums start f = below_four
    (λ k. (even odd : ℤ) → even ≡ even_of start f k → odd ≡ odd_of f k → (even +ℤ odd ≡ start +ℤ inverse_of f k) × (even -ℤ odd ≡ start +ℤ inverse_of f (7 - k)))
    (λ even odd p q. (omega (arith, ints), omega (arith, ints)))
    (λ even odd p q. (omega (arith, ints), omega (arith, ints)))
    (λ even odd p q. (omega (arith, ints), omega (arith, ints)))
    (λ even odd p q. (omega (arith, ints), omega (arith, ints)))

-- the size of a sum over a basis number
pub basis_small : (m : ℕ) (f : ℕ → ℤ) → ((j : ℕ) → j < 8 → unsigned_abs (f j) ≤ m) → (k : ℕ) → k < 8 → unsigned_abs (sum_to 8 (λ j. basis k j *ℤ f j)) ≤ m * 46344
unfolding total basis turn cosine
basis_small m f small k lt =
    le_trans (sum_bound 8 (λ j. basis k j *ℤ f j) (λ j. unsigned_abs (basis k j) * m) (λ j lower. abs-mul-le (basis k j) (f j) (unsigned_abs (basis k j)) m (le_refl (unsigned_abs (basis k j))) (small j lower)))
    (below_eight (λ i. total 8 (λ j. unsigned_abs (basis i j) * m) ≤ m * 46344)
    (omega arith) (omega arith) (omega arith) (omega arith) (omega arith) (omega arith) (omega arith) (omega arith) k lt)

-- the size of a sum over the basis numbers at one place
pub column_small : (m : ℕ) (f : ℕ → ℤ) → ((k : ℕ) → k < 8 → unsigned_abs (f k) ≤ m) → (j : ℕ) → j < 8 → unsigned_abs (sum_to 8 (λ k. basis k j *ℤ f k)) ≤ m * 43284
unfolding total basis turn cosine
column_small m f small j lt =
    le_trans (sum_bound 8 (λ k. basis k j *ℤ f k) (λ k. unsigned_abs (basis k j) * m) (λ k lower. abs-mul-le (basis k j) (f k) (unsigned_abs (basis k j)) m (le_refl (unsigned_abs (basis k j))) (small k lower)))
    (below_eight (λ i. total 8 (λ k. unsigned_abs (basis k i) * m) ≤ m * 43284)
    (omega arith) (omega arith) (omega arith) (omega arith) (omega arith) (omega arith) (omega arith) (omega arith) j lt)
