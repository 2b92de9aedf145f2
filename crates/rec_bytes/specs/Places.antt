-- Big-endian numbers at a place of a list of bytes (own). docs/FORMATS.md, "Numbers".
use Rattle.std.specs.Prelude.{ℕ, ◌+◌, List, ◌++◌, length, take, drop, Option, Some, None, nat_lt, if◌then◌else◌}
use Rattle.byteorder.specs.Endian.{big_number}

-- the number in the n bytes from a place, none where it passes the end
abbrev pub number_at : ℕ → List ℕ → ℕ → Option ℕ
number_at n bytes at = if nat_lt (length bytes) (at + n) then None else Some (big_number n (drop at bytes))

-- these bytes at this place, and every other byte as it was
abbrev pub with_bytes : List ℕ → ℕ → List ℕ → List ℕ
with_bytes old at bytes = take at old ++ bytes ++ drop (at + length bytes) old
