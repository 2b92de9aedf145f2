-- The first fault of bits that are no part (RDD 36, order our own). docs/formats/frames.md, "Slices".
use Rattle.std.specs.Prelude.{◌≡◌, ◌<◌, ◌≤◌, ◌-◌, ◌*◌, ℕ, List, [], ◌++◌, ℤ, length, ◌⊎◌}
use Rattle.std.specs.List.{flat_map, fold}
use Rattle.bit_io.specs.Read.{Reading, place_number}
use Rattle.prores_codes.specs.declared.fault.CodeFault.{CodeFault}
use Rattle.prores_codes.specs.declared.fault.CodeFault.TheVariants as code_fault
use Rattle.prores_codes.specs.Codes.{Spells, Parameters}
use Rattle.prores_codes.specs.Choices.{run_parameters, level_parameters}
use Rattle.prores_codes.specs.Spellings.{Refuses}
use Rattle.slice_parts.specs.declared.fault.PartFault.{PartFault}
use Rattle.slice_parts.specs.declared.fault.PartFault.TheVariants.{BitsEnd, TooLong, RunPast}
use Rattle.slice_parts.specs.Joined.{ReadsAll}
use Rattle.prores_codes.specs.Spellings.{Reads}
use Rattle.slice_parts.specs.Dc.{DcSpells, dc_next, dc_code_of}
use Rattle.slice_parts.specs.Dc.DcState.{First}
use Rattle.slice_parts.specs.Pairs.{Pair, PairState, PairSpells, first_pair, pair_next, levels_of}
use Rattle.slice_parts.specs.Component.{IsEnd}

-- a code's fault as the part's
abbrev pub of_code : CodeFault → PartFault
of_code (code_fault.TooLong at) = TooLong at
of_code (code_fault.BitsEnd at) = BitsEnd at

-- no number is spelled here by the code, and the fault says why
pub record NoCode (code : Parameters) (here : Reading) (fault : PartFault) : Type 0 where
  pub none : (n : ℕ) (spelling rest : List ℕ) → Spells code spelling n → ¬ (here.left ≡ spelling ++ rest)
  pub cause : CodeFault
  pub why : Refuses code here cause
  pub is : fault ≡ of_code cause

-- the run passes the levels that are free
pub record RunPasses (state : PairState) (free : ℕ) (here : Reading) (fault : PartFault) : Type 0 where
  pub run : ℕ
  pub behind : Reading
  pub read : Reads (run_parameters state.run) here behind run
  pub past : free ≤ run
  pub is : fault ≡ RunPast (place_number here.place)

-- the run is there, and no size
pub record NoSize (state : PairState) (free : ℕ) (here : Reading) (fault : PartFault) : Type 0 where
  pub run : ℕ
  pub behind : Reading
  pub read : Reads (run_parameters state.run) here behind run
  pub inside : run < free
  pub none : NoCode (level_parameters state.size_less_one) behind fault

-- run and size are there, and no sign
pub record NoSign (state : PairState) (free : ℕ) (here : Reading) (fault : PartFault) : Type 0 where
  pub run : ℕ
  pub size_less_one : ℕ
  pub behind : Reading
  pub last : Reading
  pub read : Reads (run_parameters state.run) here behind run
  pub inside : run < free
  pub size : Reads (level_parameters state.size_less_one) behind last size_less_one
  pub ended : last.left ≡ []
  pub is : fault ≡ BitsEnd (place_number last.place)

-- no pair that ends inside the free levels stands here, and the fault names the first cause in the order of the bits
abbrev pub NoPair : PairState → ℕ → Reading → PartFault → Type 0
NoPair state free here fault =
    NoCode (run_parameters state.run) here fault
    ⊎ (RunPasses state free here fault ⊎ (NoSize state free here fault ⊎ NoSign state free here fault))

-- some DC levels, and behind them no further one
pub record DcBreaks (start : Reading) (count : ℕ) (fault : PartFault) : Type 0 where
  pub levels : List ℤ
  pub here : Reading
  pub few : length levels < count
  pub read : ReadsAll DcSpells dc_next First start here levels
  pub none : NoCode (dc_code_of (fold dc_next First levels)) here fault

-- pairs inside the levels, and behind them neither zeros alone nor a further pair
pub record PairsBreak (start : Reading) (count : ℕ) (fault : PartFault) : Type 0 where
  pub pairs : List Pair
  pub here : Reading
  pub read : ReadsAll PairSpells pair_next first_pair start here pairs
  pub inside : length (flat_map levels_of pairs) ≤ count
  pub goes_on : ¬ IsEnd here.left
  pub none : NoPair (fold pair_next first_pair pairs) (count - length (flat_map levels_of pairs)) here fault

-- all DC levels, and behind them a fault of the pairs
pub record OthersBreak (start : Reading) (blocks : ℕ) (fault : PartFault) : Type 0 where
  pub dc : List ℤ
  pub middle : Reading
  pub all : length dc ≡ blocks
  pub read : ReadsAll DcSpells dc_next First start middle dc
  pub pairs : PairsBreak middle (63 * blocks) fault

abbrev pub first_bit : List ℕ → Reading
first_bit bits = record { place = 0; left = bits }

-- the fault of the first DC level or pair that doesn't stand where it is due
abbrev pub Breaks : ℕ → List ℕ → PartFault → Type 0
Breaks blocks bits fault = DcBreaks (first_bit bits) blocks fault ⊎ OthersBreak (first_bit bits) blocks fault
