-- The whole-number transform of a block of 8 by 8, row by row (own). docs/FORMATS.md, "Transform".
use Rattle.std.specs.Prelude.{ℕ, ◌+◌, ◌-◌, ◌*◌, ◌/◌, ◌%◌, ◌^◌, ◌<◌, ◌≡◌, ◌==◌, min, max, nat_lt, if◌then◌else◌, List, [], ◌∷◌, slice_index}
use Rattle.std.specs.Prelude.{ℤ, pos, negsuc, ◌+ℤ◌, ◌-ℤ◌, ◌*ℤ◌, neg_ℤ}
use Rattle.std.specs.Int.RustNames.{unsigned_abs}
use Rattle.whole_transform.specs.Sums.{sum_to, at}

-- c 1 to c 7 of the format, which stand for 8192 cos (j pi / 16)
unfoldable pub cosine : ℕ → ℤ
cosine j = at (pos 0 ∷ pos 8035 ∷ pos 7568 ∷ pos 6811 ∷ pos 5793 ∷ pos 4551 ∷ pos 3135 ∷ pos 1598 ∷ []) j

-- the same in each quarter of a turn of 32 steps, with its sign there
unfoldable pub turn : ℕ → ℤ
turn j =
    if nat_lt j 8 then cosine j
    else if nat_lt j 16 then neg_ℤ (cosine (16 - j))
    else if nat_lt j 24 then neg_ℤ (cosine (j - 16))
    else cosine (32 - j)

-- basis number k at place x
unfoldable pub basis : ℕ → ℕ → ℤ
basis k x = if k == 0 then pos 5793 else turn ((2 * x + 1) * k % 32)

-- the sample at row y and column x, less 512
abbrev pub centred : List ℕ → ℕ → ℕ → ℤ
centred block y x = pos (slice_index block (8 * y + x)) -ℤ pos 512

-- the same of block b of eight whose samples stand side by side
abbrev pub lane_centred : List ℕ → ℕ → ℕ → ℕ → ℤ
lane_centred samples b y x = pos (slice_index samples (64 * y + (8 * x + b))) -ℤ pos 512

-- the number at a row and a column
abbrev pub cell : List ℤ → ℕ → ℕ → ℤ
cell block row column = at block (8 * row + column)

-- the number at a row and a column of block b of eight
abbrev pub lane_cell : List ℤ → ℕ → ℕ → ℕ → ℤ
lane_cell blocks b row column = at blocks (64 * row + (8 * column + b))

-- the sum over y and x of the basis numbers v at y and u at x and the number at row y and column x
unfoldable pub forward_sum : (ℕ → ℕ → ℤ) → ℕ → ℕ → ℤ
forward_sum block v u = sum_to 8 (λ y. sum_to 8 (λ x. (basis v y *ℤ basis u x) *ℤ block y x))

-- the sum over v and u of the basis numbers v at y and u at x and the number at row v and column u
unfoldable pub inverse_sum : (ℕ → ℕ → ℤ) → ℕ → ℕ → ℤ
inverse_sum block y x = sum_to 8 (λ v. sum_to 8 (λ u. (basis v y *ℤ basis u x) *ℤ block v u))

-- 1 where a number is below 0, else 0
abbrev pub minus_of : ℤ → ℕ
minus_of (pos n) = 0
minus_of (negsuc n) = 1

-- the quotient rounded down
unfoldable pub floored : ℤ → ℕ → ℤ
floored (pos n) divisor = pos (n / divisor)
floored (negsuc n) divisor = negsuc (n / divisor)

-- a number brought into 4 to 1019
unfoldable pub clamped : ℤ → ℕ
clamped (pos n) = min (max n 4) 1019
clamped (negsuc n) = 4

-- the sample that a sum gives
unfoldable pub sample : ℤ → ℕ
sample total = clamped (pos 512 +ℤ floored (total +ℤ pos (2 ^ 29)) (2 ^ 30))

-- each coefficient is the sum of its row and column over the samples less 512
abbrev pub IsForward : List ℕ → List ℤ → Type 0
IsForward block out = (v u : ℕ) → v < 8 → u < 8 → cell out v u ≡ forward_sum (centred block) v u

-- at a place stand a coefficient's size over 2 ^ 25, rounded down, and its sign
pub record StandsAt (sizes negative : List ℕ) (place : ℕ) (coefficient : ℤ) : Type 0 where
  pub size : slice_index sizes place ≡ unsigned_abs coefficient / 2 ^ 25
  pub sign : slice_index negative place ≡ minus_of coefficient

-- so does each coefficient of each of eight blocks
abbrev pub IsForwardOfEach : List ℕ → List ℕ → List ℕ → Type 0
IsForwardOfEach samples sizes negative =
    (b v u : ℕ) → b < 8 → v < 8 → u < 8 → StandsAt sizes negative (64 * v + (8 * u + b)) (forward_sum (lane_centred samples b) v u)

-- each sample is that of the sum of its row and column over the products
abbrev pub IsInverse : List ℤ → List ℕ → Type 0
IsInverse products out = (y x : ℕ) → y < 8 → x < 8 → slice_index out (8 * y + x) ≡ sample (inverse_sum (cell products) y x)

-- the same of each of eight blocks
abbrev pub IsInverseOfEach : List ℤ → List ℤ → Type 0
IsInverseOfEach products samples =
    (b y x : ℕ) → b < 8 → y < 8 → x < 8 → lane_cell samples b y x ≡ pos (sample (inverse_sum (lane_cell products b) y x))
