-- What a reader has before it (own).
use Rattle.std.specs.Prelude.{◌≡◌, ◌<◌, ℕ, ◌+◌, ◌^◌, List, ◌++◌, length, min}
use Rattle.bit_io.specs.Bits.{bits}

-- the number of the next bit, and the bits from it on
pub record Reading : Type 0 where
  pub place : ℕ
  pub left : List ℕ

-- a place as a u64, which stands still at its greatest
abbrev pub place_number : ℕ → ℕ
place_number place = min place 18446744073709551615

-- these bits stood at the place, and the place is behind them now
pub record Takes (old new : Reading) (taken : List ℕ) : Type 0 where
  pub left : old.left ≡ taken ++ new.left
  pub place : new.place ≡ old.place + length taken

-- the n bits at the place are those of the number
pub record Reads (old new : Reading) (n value : ℕ) : Type 0 where
  pub small : value < 2 ^ n
  pub taken : Takes old new (bits n value)
