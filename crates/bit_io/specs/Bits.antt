-- Bits of numbers and of bytes, the highest first (RDD 36). docs/FORMATS.md, "Codes".
use Rattle.std.specs.Prelude.{ℕ, zero, suc, ◌+◌, ◌/◌, List, [], ◌∷◌, ◌++◌, replicate}
use Rattle.std.specs.Int.{bit_at}

-- the n low bits of a number, the highest first
unfoldable pub bits : ℕ → ℕ → List ℕ
bits zero v = []
bits (suc n) v = bit_at v n ∷ bits n v

-- the bits of bytes
unfoldable pub bits_of : List ℕ → List ℕ
bits_of [] = []
bits_of (b ∷ bs) = bits 8 b ++ bits_of bs

-- zero bits
unfoldable pub zeros : ℕ → List ℕ
zeros n = replicate n 0

-- the bytes that n bits fill or begin
abbrev pub bytes_for : ℕ → ℕ
bytes_for n = (n + 7) / 8
