-- Spellings written and read. docs/FORMATS.md, "Codes".
use Rattle.std.specs.Prelude.{◌≡◌, ◌<◌, ℕ, ◌+◌, ◌*◌, List, ◌++◌}
use Rattle.bit_io.specs.Bits.{zeros}
use Rattle.bit_io.specs.Read.{Reading, Takes, place_number}
use Rattle.prores_codes.specs.declared.fault.CodeFault.{CodeFault}
use Rattle.prores_codes.specs.declared.fault.CodeFault.TheVariants.{TooLong, BitsEnd}
use Rattle.prores_codes.specs.Codes.{Parameters, Spells}

-- a spelling of the number stood at the place, and the place is behind it now
pub record Reads (code : Parameters) (old new : Reading) (n : ℕ) : Type 0 where
  pub spelling : List ℕ
  pub spelled : Spells code spelling n
  pub taken : Takes old new spelling

-- so many zeros stand there, more than a, that the code would have more than 32 bits
pub record IsTooLong (code : Parameters) (left : List ℕ) : Type 0 where
  pub count : ℕ
  pub rest : List ℕ
  pub above : code.a < count
  pub long : 32 + code.a < code.e + 2 * count
  pub there : left ≡ zeros count ++ rest

-- the fault names the first cause that stands, and the place of the code's first bit
abbrev pub Refuses : Parameters → Reading → CodeFault → Type 0
Refuses code old (TooLong at) = (at ≡ place_number old.place) × IsTooLong code old.left
Refuses code old (BitsEnd at) = (at ≡ place_number old.place) × ¬ IsTooLong code old.left
