-- Spellings as numbers of so many bits (own).
use Rattle.std.specs.Prelude.{◌≡◌, ◌<◌, ◌≤◌, ℕ, ◌+◌, ◌-◌, ◌/◌, ◌^◌, List}
use Rattle.bit_io.specs.Bits.{bits}
use Rattle.prores_codes.specs.Codes.{Parameters, Spells}

-- the spelling is the bits of this number
pub record IsForm (code : Parameters) (n size number : ℕ) : Type 0 where
  pub most : size ≤ 32
  pub small : number < 2 ^ size
  pub spelled : (spelling : List ℕ) → Spells code spelling n → spelling ≡ bits size number

-- the fewest zeros of a code of more than 32 bits
abbrev pub many_zeros : Parameters → ℕ
many_zeros code = (32 + code.a - code.e) / 2 + 1

-- the first bits of the next 32 are a spelling
pub record IsFound (code : Parameters) (next size n : ℕ) : Type 0 where
  pub most : size ≤ 32
  pub spelled : Spells code (bits size (next / 2 ^ (32 - size))) n
