-- Half steps: sizes of coefficients in 2^25 times the weight, with their signs (own). docs/formats/frames.md, "Quantiser".
use Rattle.std.specs.Prelude.{◌≡◌, ◌<◌, ◌≤◌, ◌+◌, ◌*◌, ◌/◌, ◌^◌, ℕ, ℤ, length, List, pos, negsuc, slice_index}
use Rattle.std.specs.Int.RustNames.{unsigned_abs}

-- the sign of a number: 1 is minus
abbrev pub sign_bit : ℤ → ℕ
sign_bit (pos n) = 0
sign_bit (negsuc n) = 1

-- a size with the sign of a number as its last bit
abbrev pub sign_last : ℤ → ℕ → ℕ
sign_last g size = 2 * size + sign_bit g

-- the whole half steps of a coefficient, 2 ^ 25 times the weight each, with its sign as the last bit
abbrev pub half_steps_of : ℤ → ℕ → ℕ
half_steps_of g weight = sign_last g (unsigned_abs g / (2 ^ 25 * weight))

-- the coefficient has this size in whole 2 ^ 25 and this sign
pub record IsSized (g : ℤ) (size sign : ℕ) : Type 0 where
  pub whole : size ≡ unsigned_abs g / 2 ^ 25
  pub signed : sign ≡ sign_bit g

-- all are below 2 ^ 15
abbrev pub AreShort : List ℕ → Type 0
AreShort half_steps = (k : ℕ) → k < length half_steps → slice_index half_steps k < 2 ^ 15

-- none is above the greatest
abbrev pub AreAtMost : ℕ → List ℕ → Type 0
AreAtMost greatest numbers = (k : ℕ) → k < length numbers → slice_index numbers k ≤ greatest
