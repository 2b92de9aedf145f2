-- Division by multiplication (own).
use Rattle.std.specs.Prelude.{◌<◌, ◌≤◌, ◌+◌, ◌*◌, ◌^◌, ℕ}

-- the factor is 2 ^ (16 + shift) over the divisor, and less than one above it
pub record IsReciprocal (divisor factor shift : ℕ) : Type 0 where
  pub least : 2 ≤ divisor
  pub most : divisor ≤ 1024
  pub shifted : divisor ≤ 2 ^ (shift + 1)
  pub short : shift < 10
  pub low : 2 ^ (16 + shift) ≤ factor * divisor
  pub high : factor * divisor < 2 ^ (16 + shift) + divisor
