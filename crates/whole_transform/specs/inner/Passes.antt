-- Eight numbers and the basis: what one step of a pass over columns or rows gives (own).
use Rattle.std.specs.Prelude.{ℕ, ◌≡◌, ◌<◌, ◌≤◌, ◌+◌, ◌*◌, ℤ, ◌+ℤ◌, ◌*ℤ◌, List, slice_index}
use Rattle.std.specs.Int.RustNames.{unsigned_abs}
use Rattle.whole_transform.specs.Sums.{sum_to, at}
use Rattle.whole_transform.specs.Transform.{basis}

-- the sum over eight places of basis number k and the values
abbrev pub forward_of : (ℕ → ℤ) → ℕ → ℤ
forward_of values k = sum_to 8 (λ j. basis k j *ℤ values j)

-- the sum over the eight basis numbers at place j and the values
abbrev pub inverse_of : (ℕ → ℤ) → ℕ → ℤ
inverse_of values j = sum_to 8 (λ k. basis k j *ℤ values k)

-- the part of that sum over the even basis numbers, begun with a number
abbrev pub even_of : ℤ → (ℕ → ℤ) → ℕ → ℤ
even_of start values j = start +ℤ sum_to 4 (λ k. basis (2 * k) j *ℤ values (2 * k))

-- and over the odd ones
abbrev pub odd_of : (ℕ → ℤ) → ℕ → ℤ
odd_of values j = sum_to 4 (λ k. basis (2 * k + 1) j *ℤ values (2 * k + 1))

-- the first 64 numbers are at most this in size
abbrev pub AreUpTo : ℕ → List ℤ → Type 0
AreUpTo most xs = (k : ℕ) → k < 64 → unsigned_abs (at xs k) ≤ most

-- the number in a row of eight blocks that stand side by side
abbrev pub lane_at : List ℤ → ℕ → ℕ → ℤ
lane_at blocks row j = at blocks (64 * row + j)

-- sizes and signs hold at a place what they held before
pub record IsKept (sizes_before negative_before sizes negative : List ℕ) (place : ℕ) : Type 0 where
  pub size : slice_index sizes place ≡ slice_index sizes_before place
  pub sign : slice_index negative place ≡ slice_index negative_before place
