-- The bits that a reader has loaded (own).
use Rattle.std.specs.Prelude.{◌≡◌, ◌<◌, ◌≤◌, ℕ, ◌-◌, ◌*◌, ◌/◌, ◌%◌, ◌^◌, List, ◌++◌, length, drop}
use Rattle.bit_io.specs.Bits.{bits, bits_of}

-- the highest `count` bits of a word of 64
unfoldable pub highest : ℕ → ℕ → List ℕ
highest count word = bits count (word / 2 ^ (64 - count))

-- `count` bits are loaded, from the highest on and with zeros behind them, and the bytes before `at` are done
pub record IsLoaded (bytes : List ℕ) (at word count : ℕ) : Type 0 where
  pub within : at ≤ length bytes
  pub room : count ≤ 64
  pub done : count ≤ 8 * at
  pub behind : word % 2 ^ (64 - count) ≡ 0

-- 32 bits are loaded, or all that there are
abbrev pub IsReady : List ℕ → ℕ → ℕ → Type 0
IsReady bytes at count = at < length bytes → 32 ≤ count

-- the bits that are loaded, and those of the bytes behind
unfoldable pub bits_left : List ℕ → ℕ → ℕ → ℕ → List ℕ
bits_left bytes at word count = highest count word ++ bits_of (drop at bytes)
