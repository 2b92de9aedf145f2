-- Which tags the sets use, and in which order (SMPTE ST 377-1). docs/FORMATS.md, "Metadata".
use Rattle.std.specs.Prelude.{◌≡◌, ℕ, ◌==◌, ◌&&◌, not, Bool, true, false, List, [], ◌∷◌, map, if◌then◌else◌}
use Rattle.std.specs.List.{AllByRecursion}
use Rattle.local_sets.specs.Sets.{RawItem}
use Rattle.mxf_metadata.specs.RawSets.{RawSet}
use Rattle.mxf_names.specs.declared.tags.TheConstants.{INSTANCE_ID}

-- a number is among others
unfoldable pub is_among : ℕ → List ℕ → Bool
is_among number [] = false
is_among number (other ∷ others) = if number == other then true else is_among number others

-- of numbers, each that isn't among those before, once
unfoldable pub firsts_behind : List ℕ → List ℕ → List ℕ
firsts_behind before [] = []
firsts_behind before (number ∷ numbers) =
    if is_among number before then firsts_behind before numbers
    else number ∷ firsts_behind (number ∷ before) numbers

-- of numbers, each once, where it comes first
abbrev pub firsts : List ℕ → List ℕ
firsts numbers = firsts_behind [] numbers

-- the tags of a set's items
abbrev pub tags_of : RawSet → List ℕ
tags_of set = map (λ (item : RawItem). item.tag) set.items

-- of a set's tags, the first is that of its instance identifier, and no other is
abbrev pub begins_with_id : List ℕ → Bool
begins_with_id [] = false
begins_with_id (tag ∷ tags) = tag == INSTANCE_ID && not (is_among INSTANCE_ID tags)

-- each set begins with its instance identifier, and has no other
abbrev pub AreIdentified : List RawSet → Type 0
AreIdentified sets = AllByRecursion (λ set. begins_with_id (tags_of set) ≡ true) sets
