-- The AC levels of a part, as pairs of a run of zeros and the level behind it (RDD 36). docs/formats/frames.md, "Codes".
use Rattle.std.specs.Prelude.{◌≡◌, ◌≢◌, ◌-◌, ℕ, List, [], ◌∷◌, ◌++◌, replicate, ℤ, pos, negsuc}
use Rattle.std.specs.List.{flat_map}
use Rattle.std.specs.Int.RustNames.{unsigned_abs}
use Rattle.prores_codes.specs.Choices.{run_parameters, level_parameters}
use Rattle.slice_parts.specs.Joined.{Joined}
use Rattle.prores_codes.specs.Codes.{Spells}

-- a level that isn't zero, and how many zeros stand before it
pub record Pair : Type 0 where
  pub run : ℕ
  pub level : ℤ

-- the run and the size less one before
pub record PairState : Type 0 where
  pub run : ℕ
  pub size_less_one : ℕ

abbrev pub pair_of : ℕ → ℤ → Pair
pair_of run level = record { run = run; level = level }

abbrev pub pair_state : ℕ → ℕ → PairState
pair_state run size_less_one = record { run = run; size_less_one = size_less_one }

-- before the first pair a run of 4 and a level of size 2 count
abbrev pub first_pair : PairState
first_pair = pair_state 4 1

abbrev pub pair_next : PairState → Pair → PairState
pair_next state pair = pair_state pair.run (unsigned_abs pair.level - 1)

-- 1 is minus
abbrev pub sign_bit : ℤ → ℕ
sign_bit (pos n) = 0
sign_bit (negsuc n) = 1

-- the run, the size less one, the sign
pub record PairSpells (state : PairState) (bits : List ℕ) (pair : Pair) : Type 0 where
  pub some : pair.level ≢ pos 0
  pub run : List ℕ
  pub size : List ℕ
  pub run_spelled : Spells (run_parameters state.run) run pair.run
  pub size_spelled : Spells (level_parameters state.size_less_one) size (unsigned_abs pair.level - 1)
  pub joined : bits ≡ run ++ (size ++ sign_bit pair.level ∷ [])

-- the bits are the spellings of the pairs
abbrev pub ArePairs : PairState → List Pair → List ℕ → Type 0
ArePairs = Joined PairSpells pair_next

-- the levels that a pair stands for
abbrev pub levels_of : Pair → List ℤ
levels_of pair = replicate pair.run (pos 0) ++ pair.level ∷ []

-- the bits are the spellings of the pairs of levels that stand behind so many zeros
pub record ArePairsOf (state : PairState) (before : ℕ) (levels : List ℤ) (bits : List ℕ) : Type 0 where
  pub pairs : List Pair
  pub behind : ℕ
  pub entries : replicate before (pos 0) ++ levels ≡ flat_map levels_of pairs ++ replicate behind (pos 0)
  pub coded : ArePairs state pairs bits
