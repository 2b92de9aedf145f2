-- Combination codes and their two cases (RDD 36). docs/FORMATS.md, "Codes".
use Rattle.std.specs.Prelude.{◌≡◌, ◌<◌, ◌≤◌, ℕ, ◌+◌, ◌-◌, ◌*◌, ◌/◌, ◌^◌, List, ◌∷◌, ◌++◌, length, ◌⊎◌}
use Rattle.bit_io.specs.Bits.{bits, zeros}
use Rattle.prores_codes.specs.declared.code.Code.{Code}

-- the numbers of a combination code
pub record Parameters : Type 0 where
  pub a : ℕ
  pub r : ℕ
  pub e : ℕ

-- three numbers as a code
abbrev pub combination : ℕ → ℕ → ℕ → Parameters
combination a r e = record { a = a; r = r; e = e }

-- the code of order k
abbrev pub order : ℕ → Parameters
order k = combination 0 k (k + 1)

-- the numbers of a code
abbrev pub parameters : Code → Parameters
parameters code = combination code.a code.r code.e

-- how many numbers have a short spelling
abbrev pub short_count : Parameters → ℕ
short_count code = (code.a + 1) * 2 ^ code.r

-- zeros for the number's upper part, a one, and its r low bits
pub record IsShort (code : Parameters) (spelling : List ℕ) (n : ℕ) : Type 0 where
  pub small : n < short_count code
  pub spelled : spelling ≡ zeros (n / 2 ^ code.r) ++ 1 ∷ bits code.r n

-- the number whose binary digits a long spelling ends in
abbrev pub long_number : Parameters → ℕ → ℕ
long_number code n = n - short_count code + 2 ^ code.e

-- the number has so many binary digits, without zeros before them
pub record HasDigits (digits number : ℕ) : Type 0 where
  pub some : 0 < digits
  pub highest : 2 ^ (digits - 1) ≤ number
  pub all : number < 2 ^ digits

-- zeros, one more than a for the fewest digits and one more for each further digit, and then the binary digits
pub record IsLong (code : Parameters) (spelling : List ℕ) (n : ℕ) : Type 0 where
  pub digits : ℕ
  pub large : short_count code ≤ n
  pub binary : HasDigits digits (long_number code n)
  pub spelled : spelling ≡ zeros (code.a + 1 + (digits - 1 - code.e)) ++ bits digits (long_number code n)

-- the bits are the number's spelling by the code, in at most 32 bits
pub record Spells (code : Parameters) (spelling : List ℕ) (n : ℕ) : Type 0 where
  pub most : length spelling ≤ 32
  pub cases : IsShort code spelling n ⊎ IsLong code spelling n

-- the number has a spelling
abbrev pub Fits : Parameters → ℕ → Type 0
Fits code n = (spelling : List ℕ) × Spells code spelling n
