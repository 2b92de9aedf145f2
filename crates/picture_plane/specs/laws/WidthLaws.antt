-- Laws of the widths of a row's slices: proved here, for proofs to cite.
use Rattle.std.proofs.Common.{◌≡◌, ℕ, zero, suc, ◌+◌, ◌-◌, ◌/◌, ◌%◌, ◌^◌, ◌<◌, ◌≤◌, ◌⊎◌, List, [], ◌∷◌, ◌++◌, length, take}
use Rattle.std.proofs.Common.{refl, sym, ap, ◌∙◌, arith, get_or, inl, inr, subst}
use Rattle.std.specs.Prelude.{replicate, sum}
use Rattle.std.proofs.Math.Nat.{le-mul_of_pos_right}
use Rattle.std.proofs.lemmas.Bool.{cases_lt, cases_order}
use Rattle.std.proofs.lemmas.List.{length-append, length-replicate, append-nil, get_or-replicate, get_or-append_right, get_or_append_left, take-take}
use Rattle.std.proofs.lemmas.List.Sums.{sum_by-append, sum_by-cons, sum_by_more, sum_by-take-le}
use Rattle.std.proofs.lemmas.List.Folds.{sum_by-replicate}
use Rattle.std.proofs.lemmas.Nat.{shr_split, pow_pos}
use Rattle.picture_plane.specs.Slices.{slice_widths}
use Rattle.picture_plane.specs.inner.Rows.{narrower}

-- as many of 2 ^ log2 as fit, then narrower ones
pub widths_are : (log2 m : ℕ) → slice_widths log2 m ≡ replicate (m / 2 ^ log2) (2 ^ log2) ++ narrower log2 (m % 2 ^ log2)
unfolding slice_widths
widths_are zero m = ap (λ (n : ℕ). replicate n 1) (omega arith) ∙ sym (append-nil (replicate (m / 1) 1))
widths_are (suc log2) m = refl

-- the widths of a row add up to its macroblocks
pub sum-widths : (log2 m : ℕ) → sum (slice_widths log2 m) ≡ m
unfolding slice_widths
sum-widths zero m = omega (arith, sum_by-replicate (λ (x : ℕ). x) m 1)
sum-widths (suc log2) m =
    let whole = m / 2 ^ suc log2 in let left = m % 2 ^ suc log2 in
    omega (arith, sum_by-append (λ (x : ℕ). x) (replicate whole (2 ^ suc log2)) (slice_widths log2 left), sum_by-replicate (λ (x : ℕ). x) whole (2 ^ suc log2), sum-widths log2 left, shr_split m (suc log2))

-- a row has no more slices than macroblocks
pub length-widths-le : (log2 m : ℕ) → length (slice_widths log2 m) ≤ m
unfolding slice_widths
length-widths-le zero m = omega (arith, length-replicate {A = ℕ} m 1)
length-widths-le (suc log2) m =
    let whole = m / 2 ^ suc log2 in let left = m % 2 ^ suc log2 in
    omega (arith, length-append (replicate whole (2 ^ suc log2)) (slice_widths log2 left), length-replicate whole (2 ^ suc log2), length-widths-le log2 left, shr_split m (suc log2), le-mul_of_pos_right whole (pow_pos (suc log2)))

-- a width of a row: a power of two up to the greatest one
pub record IsWidth (log2 width : ℕ) : Type 0 where
  pub power : ℕ
  pub most : power ≤ log2
  pub value : width ≡ 2 ^ power

pub widths_are_powers : (log2 m k : ℕ) → k < length (slice_widths log2 m) → IsWidth log2 (get_or (slice_widths log2 m) k 0)
unfolding slice_widths
widths_are_powers zero m k h = record { power = 0; most = omega arith; value = get_or-replicate m k 1 0 (omega (arith, length-replicate {A = ℕ} m 1)) }
widths_are_powers (suc log2) m k h =
    let whole = m / 2 ^ suc log2 in let left = m % 2 ^ suc log2 in
    let wide = replicate whole (2 ^ suc log2) in let rest = slice_widths log2 left in
    let long = length-replicate whole (2 ^ suc log2) in
    elim (cases_lt k whole) [
      | inl lt ↦ record { power = suc log2; most = omega arith; value = get_or_append_left wide rest 0 k (omega arith) ∙ get_or-replicate whole k (2 ^ suc log2) 0 lt }
      | inr ge ↦
          let there : k - whole < length rest = omega (arith, length-append wide rest, h) in
          let found = widths_are_powers log2 left (k - whole) there in
          record { power = found.power; most = omega (arith, found.most); value = get_or-append_right wide rest whole k 0 long ge ∙ found.value }
    ]

-- a slice has 1, 2, 4 or 8 macroblocks
abbrev pub IsCount : ℕ → Type 0
IsCount n = (n ≡ 1) ⊎ (n ≡ 2) ⊎ (n ≡ 4) ⊎ (n ≡ 8)

count_of_power : (power : ℕ) → power ≤ 3 → IsCount (2 ^ power)
count_of_power zero h = inl refl
count_of_power (suc zero) h = inr (inl refl)
count_of_power (suc (suc zero)) h = inr (inr (inl refl))
count_of_power (suc (suc (suc zero))) h = inr (inr (inr refl))
count_of_power (suc (suc (suc (suc power)))) h = absurd (omega arith)

pub counts_of_widths : (log2 m k : ℕ) → log2 ≤ 3 → k < length (slice_widths log2 m) → IsCount (get_or (slice_widths log2 m) k 0)
counts_of_widths log2 m k small h =
    let found = widths_are_powers log2 m k h in
    let power_small : found.power ≤ 3 = omega (arith, found.most) in
    subst IsCount (sym found.value) (count_of_power found.power power_small)

-- the sum of the numbers before the next place
pub sum-take_next : (ws : List ℕ) (n : ℕ) → n < length ws → sum (take (n + 1) ws) ≡ sum (take n ws) + get_or ws n 0
sum-take_next ws n h = sum_by_more (λ (x : ℕ). x) ws n 0 h

-- what is summed up at a later place is no less
sum-take-add : (ws : List ℕ) (m k : ℕ) → sum (take m ws) ≤ sum (take (m + k) ws)
sum-take-add ws m k =
    let shorter : take m (take (m + k) ws) ≡ take m ws = take-take m (m + k) ws (omega arith) in
    omega (arith, sum_by-take-le (λ (x : ℕ). x) (take (m + k) ws) m, ap sum shorter)

pub sum-take-le : (ws : List ℕ) (m n : ℕ) → m ≤ n → sum (take m ws) ≤ sum (take n ws)
sum-take-le ws m n h =
    let there : m + (n - m) ≡ n = omega arith in
    omega (arith, sum-take-add ws m (n - m), ap (λ (k : ℕ). sum (take k ws)) there)

-- a macroblock lies in this slice of a row with these widths
pub record LiesIn (ws : List ℕ) (at n : ℕ) : Type 0 where
  pub within : n < length ws
  pub from : sum (take n ws) ≤ at
  pub to : at < sum (take n ws) + get_or ws n 0

-- each macroblock of a row lies in a slice
pub slice_with : (ws : List ℕ) (at : ℕ) → at < sum ws → (n : ℕ) × LiesIn ws at n
slice_with [] at h = absurd (omega arith)
slice_with (w ∷ ws) at h =
    let all = sum_by-cons (λ (x : ℕ). x) w ws in
    elim (cases_lt at w) [
      | inl lt ↦ (0, record { within = omega arith; from = omega arith; to = omega arith })
      | inr ge ↦
          let rest : at - w < sum ws = omega (arith, all, h) in
          let found = slice_with ws (at - w) rest in
          let before = sum_by-cons (λ (x : ℕ). x) w (take found.0 ws) in
          (suc found.0, record { within = omega (arith, found.1.within); from = omega (arith, before, found.1.from, ge); to = omega (arith, before, found.1.to, ge) })
    ]

not_later : (ws : List ℕ) (at m n : ℕ) → LiesIn ws at m → LiesIn ws at n → m < n → ⊥
not_later ws at m n p q h =
    omega (arith, sum-take_next ws m p.within, sum-take-le ws (m + 1) n (omega arith), p.to, q.from)

-- and in no other
pub one_slice_with : (ws : List ℕ) (at m n : ℕ) → LiesIn ws at m → LiesIn ws at n → m ≡ n
one_slice_with ws at m n p q =
    elim (cases_order m n) [
      | inl same ↦ same
      | inr other ↦ absurd (elim other [ inl lt ↦ not_later ws at m n p q lt | inr gt ↦ not_later ws at n m q p gt ])
    ]
