-- Pairs of a run and a level, spelled in advance (own). docs/FORMATS.md, "Codes".
use Rattle.std.specs.Prelude.{◌≡◌, ◌<◌, ◌≤◌, ℕ, ◌-◌, ◌/◌, ◌%◌, ◌^◌, List, [], ◌∷◌, ◌++◌, slice_index, get_or}
use Rattle.bit_io.specs.Bits.{bits}
use Rattle.prores_codes.specs.declared.classes.TheConstants.{FIRST_RUNS, FIRST_SIZES}
use Rattle.prores_codes.specs.declared.pairs.Pair.{Pair}
use Rattle.prores_codes.specs.Choices.{run_parameters, level_parameters}
use Rattle.prores_codes.specs.Codes.{Spells}

-- the row, 128 pairs for each two codes, is that of the codes that follow a run and a size less one
pub record IsPairRow (run size_less_one row : ℕ) : Type 0 where
  pub within : row < 4608
  pub whole : row % 128 ≡ 0
  pub run_code : run_parameters (slice_index FIRST_RUNS (row / 128 / 6)) ≡ run_parameters run
  pub level_code : level_parameters (slice_index FIRST_SIZES (row / 128 % 6)) ≡ level_parameters size_less_one

-- by the codes of the row, the pair spells a run and a level, of which twice the size and the sign is given
pub record IsPair (row run level : ℕ) (pair : Pair) : Type 0 where
  pub most : pair.size ≤ 15
  pub small : pair.number < 2 ^ pair.size
  pub joined : (run_before size_before : ℕ) (one two : List ℕ) → IsPairRow run_before size_before row
      → Spells (run_parameters run_before) one run → Spells (level_parameters size_before) two (level / 2 - 1)
      → one ++ two ++ level % 2 ∷ [] ≡ bits pair.size pair.number
  pub next : IsPairRow run (level / 2 - 1) pair.row

-- the first pairs are those of their rows, runs and levels, in this order
abbrev pub ArePairs : List Pair → ℕ → Type 0
ArePairs pairs count = (k : ℕ) (none : Pair) → k < count → IsPair (k - k % 128) (k / 16 % 8) (k % 16) (get_or pairs k none)
