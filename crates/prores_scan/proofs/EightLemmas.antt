-- Eight places in a row.
use Rattle.std.proofs.Common.{◌≡◌, ◌⊎◌, ℕ, zero, suc, ◌+◌, ◌-◌, ◌^◌, ◌<◌, ◌≤◌, List, length, slice_index, ap, sym, ◌∙◌, inl, inr, ⊎_elim, arith}
use Rattle.std.proofs.lemmas.Bool.{cases_lt}
use Rattle.prores_scan.specs.HalfSteps.{AreShort}

-- what holds at each of eight places holds at every place below eight
pub below_eight : (P : ℕ → Type 0) → P 0 → P 1 → P 2 → P 3 → P 4 → P 5 → P 6 → P 7 → (k : ℕ) → k < 8 → P k
below_eight P a b c d e f g h zero lt = a
below_eight P a b c d e f g h (suc zero) lt = b
below_eight P a b c d e f g h (suc (suc zero)) lt = c
below_eight P a b c d e f g h (suc (suc (suc zero))) lt = d
below_eight P a b c d e f g h (suc (suc (suc (suc zero)))) lt = e
below_eight P a b c d e f g h (suc (suc (suc (suc (suc zero))))) lt = f
below_eight P a b c d e f g h (suc (suc (suc (suc (suc (suc zero)))))) lt = g
below_eight P a b c d e f g h (suc (suc (suc (suc (suc (suc (suc zero))))))) lt = h
below_eight P a b c d e f g h (suc (suc (suc (suc (suc (suc (suc (suc k)))))))) lt = absurd (omega arith)

-- where eight short numbers are put into a list of short ones, all are short
pub eight_short : (old new eight : List ℕ) (to : ℕ) → length new ≡ length old → AreShort old
    → ((b : ℕ) → b < 8 → slice_index eight b < 2 ^ 15)
    → ((b : ℕ) → b < 8 → slice_index new (to + b) ≡ slice_index eight b)
    → ((k : ℕ) → (k < to) ⊎ (to + 8 ≤ k) → slice_index new k ≡ slice_index old k)
    → AreShort new
eight_short old new eight to long short each placed kept k lt =
    ⊎_elim
    (λ before. omega (arith, long, kept k (inl before), short k (omega arith)))
    (λ from. ⊎_elim
    (λ inside.
    let place : to + (k - to) ≡ k = omega arith in
    let same : slice_index new k ≡ slice_index eight (k - to) = ap (slice_index new) (sym place) ∙ placed (k - to) (omega arith) in
    omega (arith, same, each (k - to) (omega arith)))
    (λ behind. omega (arith, long, kept k (inr behind), short k (omega arith)))
    (cases_lt k (to + 8)))
    (cases_lt k to)
