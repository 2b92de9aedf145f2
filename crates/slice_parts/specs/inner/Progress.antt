-- How far a part's levels are read (own).
use Rattle.std.specs.Prelude.{◌≡◌, ◌≤◌, ◌-◌, ◌++◌, ℕ, ℤ, List, length, replicate, pos, ◌⊎◌, []}
use Rattle.std.specs.List.{fold, flat_map}
use Rattle.bit_io.specs.Read.{Reading, Takes, place_number}
use Rattle.prores_codes.specs.Codes.{Parameters}
use Rattle.prores_codes.specs.Spellings.{Reads}
use Rattle.slice_parts.specs.declared.fault.PartFault.{PartFault}
use Rattle.slice_parts.specs.declared.fault.PartFault.TheVariants.{BitsEnd}
use Rattle.slice_parts.specs.Faults.{NoCode}
use Rattle.slice_parts.specs.Joined.{ReadsAll}
use Rattle.slice_parts.specs.Pairs.{Pair, PairSpells, pair_next, first_pair, pair_state, levels_of}
use Rattle.slice_parts.specs.Component.{IsEnd}

-- one item is spelled at a place, and `behind` follows
pub record ReadsOne {S X : Type 0} (spells : S → List ℕ → X → Type 0) (state : S) (here behind : Reading) (item : X) : Type 0 where
  pub spelled : List ℕ
  pub coded : spells state spelled item
  pub taken : Takes here behind spelled

-- the levels are those of the pairs, and zeros behind them
abbrev pub AreLevelsOf : List Pair → List ℤ → Type 0
AreLevelsOf pairs levels = (behind : ℕ) × (levels ≡ flat_map levels_of pairs ++ replicate behind (pos 0))

-- the bits are the spellings of pairs, whose levels these are, and then zeros alone
pub record HasPairs (start : Reading) (levels : List ℤ) : Type 0 where
  pub pairs : List Pair
  pub here : Reading
  pub read : ReadsAll PairSpells pair_next first_pair start here pairs
  pub entries : AreLevelsOf pairs levels
  pub ended : IsEnd here.left

-- pairs are read up to a place, this is the state behind them, and their levels stand in front of zeros
pub record PairsRead (start here : Reading) (count run size_less_one at : ℕ) (levels : List ℤ) : Type 0 where
  pub pairs : List Pair
  pub read : ReadsAll PairSpells pair_next first_pair start here pairs
  pub state : fold pair_next first_pair pairs ≡ pair_state run size_less_one
  pub place : length (flat_map levels_of pairs) ≡ at
  pub long : length levels ≡ count
  pub within : at ≤ count
  pub entries : levels ≡ flat_map levels_of pairs ++ replicate (count - at) (pos 0)

-- the size of a level is spelled here, and no bit follows
pub record NoSignBehind (code : Parameters) (here : Reading) (fault : PartFault) : Type 0 where
  pub size_less_one : ℕ
  pub last : Reading
  pub size : Reads code here last size_less_one
  pub ended : last.left ≡ []
  pub is : fault ≡ BitsEnd (place_number last.place)

-- no level stands here
abbrev pub NoLevel : Parameters → Reading → PartFault → Type 0
NoLevel code here fault = NoCode code here fault ⊎ NoSignBehind code here fault
