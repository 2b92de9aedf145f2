-- Levels and products. docs/formats/frames.md, "Quantiser".
use Rattle.std.specs.Prelude.{◌≡◌, ◌<◌, ◌≤◌, ◌+◌, ◌*◌, ◌/◌, ◌^◌, ℕ, ℤ, pos, negsuc, ◌-ℤ◌, ◌*ℤ◌, neg_ℤ}
use Rattle.std.specs.Int.RustNames.{unsigned_abs}

-- the coefficients of one level lie a step apart (own)
abbrev pub step_of : ℕ → ℕ → ℕ
step_of weight scale = 2 ^ 26 * weight * scale

-- a size with the sign of a number
abbrev pub with_sign_of : ℤ → ℕ → ℤ
with_sign_of (pos n) size = pos size
with_sign_of (negsuc n) size = neg_ℤ (pos size)

-- the whole number nearest to a quotient, the greater of two
abbrev pub nearest_quotient : ℕ → ℕ → ℕ
nearest_quotient size step = (size + step / 2) / step

-- the level of a coefficient (own)
abbrev pub level_of : ℤ → ℕ → ℕ → ℤ
level_of g weight scale = with_sign_of g (nearest_quotient (unsigned_abs g) (step_of weight scale))

-- how far a coefficient is from that of a level
abbrev pub distance : ℤ → ℕ → ℤ → ℕ
distance g step level = unsigned_abs (g -ℤ level *ℤ pos step)

-- no level is nearer, and a coefficient in the middle of two has the one away from zero
pub record IsNearest (g : ℤ) (step : ℕ) (level : ℤ) : Type 0 where
  pub nearest : 2 * distance g step level ≤ step
  pub away : 2 * distance g step level ≡ step → unsigned_abs g < unsigned_abs level * step

-- the product of a level (RDD 36)
abbrev pub product_of : ℤ → ℕ → ℕ → ℤ
product_of level weight scale = level *ℤ pos (weight * scale)
