-- What the next nine bits begin with, read in advance (own). docs/FORMATS.md, "Codes".
use Rattle.std.specs.Prelude.{◌≡◌, ◌≢◌, ◌<◌, ◌≤◌, ℕ, ℤ, pos, negsuc, ◌-◌, ◌/◌, ◌%◌, ◌^◌, List, [], ◌∷◌, ◌++◌, slice_index, get_or}
use Rattle.std.specs.Int.RustNames.{unsigned_abs}
use Rattle.bit_io.specs.Bits.{bits}
use Rattle.bit_io.specs.Read.{Reading, Takes}
use Rattle.prores_codes.specs.declared.classes.TheConstants.{FIRST_RUNS, FIRST_SIZES}
use Rattle.prores_codes.specs.declared.heads.RunHead.{RunHead}
use Rattle.prores_codes.specs.declared.heads.LevelHead.{LevelHead}
use Rattle.prores_codes.specs.Choices.{run_parameters, level_parameters}
use Rattle.prores_codes.specs.Codes.{Parameters, Spells}

-- the row, 512 entries for each code, is that of the code that follows a run
pub record IsRunRow (run row : ℕ) : Type 0 where
  pub within : row < 3072
  pub whole : row % 512 ≡ 0
  pub code : run_parameters (slice_index FIRST_RUNS (row / 512)) ≡ run_parameters run

-- and that of the code that follows a size less one
pub record IsLevelRow (size_less_one row : ℕ) : Type 0 where
  pub within : row < 3072
  pub whole : row % 512 ≡ 0
  pub code : level_parameters (slice_index FIRST_SIZES (row / 512)) ≡ level_parameters size_less_one

-- 32 bits that begin with these nine begin with the spelling of the run, unless the size is 64
pub record IsRunHead (row nine : ℕ) (head : RunHead) : Type 0 where
  pub greatest : head.size ≤ 64
  pub most : head.size < 64 → head.size ≤ 9
  pub spelled : (run_before word : ℕ) → head.size < 64 → IsRunRow run_before row → word / 2 ^ 23 ≡ nine
      → Spells (run_parameters run_before) (bits head.size (word / 2 ^ (32 - head.size))) head.run
  pub next : IsRunRow head.run head.row

-- 1 is minus
abbrev pub sign_bit : ℤ → ℕ
sign_bit (pos n) = 0
sign_bit (negsuc n) = 1

-- the bits are the spelling of a level that isn't zero: its size less one by the code, and then its sign
pub record SpellsLevel (code : Parameters) (spelling : List ℕ) (level : ℤ) : Type 0 where
  pub some : level ≢ pos 0
  pub size : List ℕ
  pub size_spelled : Spells code size (unsigned_abs level - 1)
  pub joined : spelling ≡ size ++ sign_bit level ∷ []

-- 32 bits that begin with these nine begin with the spelling of the level, unless the size is 64
pub record IsLevelHead (row nine : ℕ) (head : LevelHead) : Type 0 where
  pub greatest : head.size ≤ 64
  pub most : head.size < 64 → head.size ≤ 9
  pub spelled : (size_before word : ℕ) → head.size < 64 → IsLevelRow size_before row → word / 2 ^ 23 ≡ nine
      → SpellsLevel (level_parameters size_before) (bits head.size (word / 2 ^ (32 - head.size))) head.level
  pub next : IsLevelRow (unsigned_abs head.level - 1) head.row

-- the spellings of a run and of the level behind it stood at the place, and the place is behind them now
pub record ReadsPair (run_before size_before : ℕ) (old new : Reading) (run : ℕ) (level : ℤ) : Type 0 where
  pub one : List ℕ
  pub two : List ℕ
  pub run_spelled : Spells (run_parameters run_before) one run
  pub level_spelled : SpellsLevel (level_parameters size_before) two level
  pub taken : Takes old new (one ++ two)

-- the first heads are those of their rows and nine bits, in this order
abbrev pub AreRunHeads : List RunHead → ℕ → Type 0
AreRunHeads heads count = (k : ℕ) (none : RunHead) → k < count → IsRunHead (k - k % 512) (k % 512) (get_or heads k none)

abbrev pub AreLevelHeads : List LevelHead → ℕ → Type 0
AreLevelHeads heads count = (k : ℕ) (none : LevelHead) → k < count → IsLevelHead (k - k % 512) (k % 512) (get_or heads k none)
