-- From each of a few places to every place below a number.
use Rattle.std.proofs.Common.{ℕ, zero, suc, ◌<◌, arith}

-- what holds at each of four places holds at every place below four
pub below_four : (P : ℕ → Type 0) → P 0 → P 1 → P 2 → P 3 → (k : ℕ) → k < 4 → P k
below_four P a b c d zero lt = a
below_four P a b c d (suc zero) lt = b
below_four P a b c d (suc (suc zero)) lt = c
below_four P a b c d (suc (suc (suc zero))) lt = d
below_four P a b c d (suc (suc (suc (suc k)))) lt = absurd (omega arith)

-- the same of two places
pub below_two : (P : ℕ → Type 0) → P 0 → P 1 → (k : ℕ) → k < 2 → P k
below_two P a b zero lt = a
below_two P a b (suc zero) lt = b
below_two P a b (suc (suc k)) lt = absurd (omega arith)

-- the same of eight places
pub below_eight : (P : ℕ → Type 0) → P 0 → P 1 → P 2 → P 3 → P 4 → P 5 → P 6 → P 7 → (k : ℕ) → k < 8 → P k
below_eight P a b c d e f g h zero lt = a
below_eight P a b c d e f g h (suc zero) lt = b
below_eight P a b c d e f g h (suc (suc zero)) lt = c
below_eight P a b c d e f g h (suc (suc (suc zero))) lt = d
below_eight P a b c d e f g h (suc (suc (suc (suc k)))) lt = below_four (λ j. P (suc (suc (suc (suc j))))) e f g h k (omega arith)
