-- The fewest bits of changes, range by range, and the changes of a list one by one.
use Rattle.std.proofs.Common.{◌≡◌, ℕ, zero, suc, ◌+◌, ◌≤◌, ◌<◌, arith, refl, List, [], ◌∷◌, length, drop, slice_index}
use Rattle.slice_parts.specs.Bound.{least_change, change_at, changes_at}
use Rattle.slice_parts.specs.laws.LeastBits.{reached, short_of}

pub below_three : (n : ℕ) → n < 3 → n + 1 ≡ least_change n
unfolding least_change
below_three zero lt = refl
below_three (suc zero) lt = refl
below_three (suc (suc zero)) lt = refl
below_three (suc (suc (suc n))) lt = absurd (omega (arith, lt))

pub below_five : (n : ℕ) → 3 ≤ n → n < 5 → 4 ≡ least_change n
unfolding least_change
below_five n le lt =
    omega (arith, reached 1 n (omega (arith, le)), reached 2 n (omega (arith, le)), reached 3 n le, short_of 5 n lt, short_of 13 n (omega (arith, lt)), short_of 29 n (omega (arith, lt)), short_of 61 n (omega (arith, lt)))

pub below_thirteen : (n : ℕ) → 5 ≤ n → n < 13 → 6 ≡ least_change n
unfolding least_change
below_thirteen n le lt =
    omega (arith, reached 1 n (omega (arith, le)), reached 2 n (omega (arith, le)), reached 3 n (omega (arith, le)), reached 5 n le, short_of 13 n lt, short_of 29 n (omega (arith, lt)), short_of 61 n (omega (arith, lt)))

pub below_29 : (n : ℕ) → 13 ≤ n → n < 29 → 8 ≡ least_change n
unfolding least_change
below_29 n le lt =
    omega (arith, reached 1 n (omega (arith, le)), reached 2 n (omega (arith, le)), reached 3 n (omega (arith, le)), reached 5 n (omega (arith, le)), reached 13 n le, short_of 29 n lt, short_of 61 n (omega (arith, lt)))

pub below_61 : (n : ℕ) → 29 ≤ n → n < 61 → 10 ≡ least_change n
unfolding least_change
below_61 n le lt =
    omega (arith, reached 1 n (omega (arith, le)), reached 2 n (omega (arith, le)), reached 3 n (omega (arith, le)), reached 5 n (omega (arith, le)), reached 13 n (omega (arith, le)), reached 29 n le, short_of 61 n lt)

pub from_61 : (n : ℕ) → 61 ≤ n → 12 ≡ least_change n
unfolding least_change
from_61 n le =
    omega (arith, reached 1 n (omega (arith, le)), reached 2 n (omega (arith, le)), reached 3 n (omega (arith, le)), reached 5 n (omega (arith, le)), reached 13 n (omega (arith, le)), reached 29 n (omega (arith, le)), reached 61 n le)

-- the change at a place, and those behind it
pub next_change : (scale k : ℕ) (half_steps : List ℕ) → k + 1 < length half_steps
    → changes_at scale (drop k half_steps) ≡ change_at scale (slice_index half_steps k) (slice_index half_steps (k + 1)) ∷ changes_at scale (drop (k + 1) half_steps)
next_change scale k [] lt = absurd (omega (arith, lt))
next_change scale zero (v ∷ []) lt = absurd (omega (arith, lt))
next_change scale zero (v ∷ w ∷ half_steps) lt = refl
next_change scale (suc k) (v ∷ half_steps) lt =
    let more : suc k + 1 ≡ suc (k + 1) = omega arith in
    rw more (next_change scale k half_steps (omega (arith, lt)))

-- none is left at the last place
pub last_change : (scale k : ℕ) (half_steps : List ℕ) → k + 1 ≡ length half_steps → changes_at scale (drop k half_steps) ≡ []
last_change scale k [] e = absurd (omega (arith, e))
last_change scale zero (v ∷ []) e = refl
last_change scale zero (v ∷ w ∷ half_steps) e = absurd (omega (arith, e))
last_change scale (suc k) (v ∷ half_steps) e = last_change scale k half_steps (omega (arith, e))
