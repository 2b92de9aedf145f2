-- A part of a slice: the levels of one component's blocks, interleaved (RDD 36). docs/formats/frames.md, "Slices".
use Rattle.std.specs.Prelude.{◌≡◌, ◌≤◌, ◌-◌, ◌*◌, ◌^◌, ℕ, ℤ, pos, List, ◌++◌, length, take, drop, map, slice_index_or}
use Rattle.std.specs.Int.RustNames.{unsigned_abs}
use Rattle.bit_io.specs.Bits.{bits_of, zeros, bytes_for}
use Rattle.prores_scan.specs.ScaledLevels.{signed_of}
use Rattle.slice_parts.specs.Joined.{Split}
use Rattle.slice_parts.specs.Dc.{IsDc}
use Rattle.slice_parts.specs.Dc.DcState.{First}
use Rattle.slice_parts.specs.Pairs.{ArePairsOf, first_pair}

-- the levels that sizes with a sign as their last bit mean
abbrev pub signed_levels : List ℕ → List ℤ
signed_levels numbers = map signed_of numbers

-- the level at an entry: scan position k of block b stands at entry k * blocks + b
abbrev pub level_at : List ℤ → ℕ → ℤ
level_at levels entry = slice_index_or levels entry (pos 0)

-- each level has a size of at most 2^13
abbrev pub AreSmall : List ℤ → Type 0
AreSmall levels = (entry : ℕ) → unsigned_abs (level_at levels entry) ≤ 2 ^ 13

-- the bits are those of the DC levels, and of the pairs of the others
abbrev pub IsPart : List ℤ → List ℤ → List ℕ → Type 0
IsPart dc others = Split (IsDc First dc) (ArePairsOf first_pair 0 others)

-- the bits are the spellings of the levels, scan position by scan position and in each block by block
pub record IsSpelled (blocks : ℕ) (levels : List ℤ) (bits : List ℕ) : Type 0 where
  pub long : length levels ≡ 64 * blocks
  pub part : IsPart (take blocks levels) (drop blocks levels) bits

-- nothing but zeros
abbrev pub IsEnd : List ℕ → Type 0
IsEnd left = left ≡ zeros (length left)

-- the bits are the spellings of the levels, and then zeros alone
pub record IsComponent (blocks : ℕ) (bits : List ℕ) (levels : List ℤ) : Type 0 where
  pub spelled : List ℕ
  pub left : List ℕ
  pub levels_are : IsSpelled blocks levels spelled
  pub joined : bits ≡ spelled ++ left
  pub ended : IsEnd left

-- the bytes spell the bits, and then fewer than 8 zeros
pub record IsPadded (spelled bytes : List ℕ) : Type 0 where
  pub long : length bytes ≡ bytes_for (length spelled)
  pub bits : bits_of bytes ≡ spelled ++ zeros (8 * length bytes - length spelled)
