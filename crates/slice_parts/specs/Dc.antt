-- The DC levels of a part's blocks, each behind the one before (RDD 36). docs/formats/frames.md, "Codes".
use Rattle.std.specs.Prelude.{ℕ, List, ℤ, pos, negsuc, neg_ℤ, ◌-ℤ◌}
use Rattle.std.specs.Int.RustNames.{unsigned_abs}
use Rattle.prores_codes.specs.Codes.{Parameters, order, Spells}
use Rattle.prores_codes.specs.Choices.{dc_parameters}
use Rattle.prores_codes.specs.Folded.{folded}
use Rattle.slice_parts.specs.Joined.{Joined}

-- before the first level, or behind a level and the difference that led to it
pub data DcState : Type 0 where
  First : DcState
  Behind : ℤ → ℤ → DcState

-- a difference, negated where the one before is negative
abbrev pub turned : ℤ → ℤ → ℤ
turned (pos n) difference = difference
turned (negsuc n) difference = neg_ℤ difference

-- the code of the level that follows
abbrev pub dc_code_of : DcState → Parameters
dc_code_of First = order 5
dc_code_of (Behind level difference) = dc_parameters (unsigned_abs difference)

-- the number that a level is coded as: itself, or its difference from the one before
abbrev pub dc_number : DcState → ℤ → ℕ
dc_number First level = folded level
dc_number (Behind before difference) level = folded (turned difference (level -ℤ before))

-- the difference before the second level counts as 3
abbrev pub dc_next : DcState → ℤ → DcState
dc_next First level = Behind level (pos 3)
dc_next (Behind before difference) level = Behind level (level -ℤ before)

-- the bits spell one level
abbrev pub DcSpells : DcState → List ℕ → ℤ → Type 0
DcSpells state bits level = Spells (dc_code_of state) bits (dc_number state level)

-- the bits are the spellings of the levels
abbrev pub IsDc : DcState → List ℤ → List ℕ → Type 0
IsDc = Joined DcSpells dc_next
