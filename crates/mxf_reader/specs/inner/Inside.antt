-- What is kept of a file lies inside the file (own). Private functions alone cite this.
use Rattle.std.specs.Prelude.{◌≡◌, ◌≤◌, ◌+◌, ℕ, Option, Some, None}
use Rattle.std.specs.List.{AllByRecursion}
use Rattle.take_layout.specs.declared.place.Place.{Place}
use Rattle.mxf_reader.specs.declared.file.SeenFile.{SeenFile}
use Rattle.mxf_reader.specs.declared.mark.Mark.{Mark}
use Rattle.mxf_reader.specs.declared.part.SeenPart.{SeenPart}
use Rattle.mxf_reader.specs.declared.seen.Seen.{Seen}

-- an item ends inside
pub record IsMarkInside (len : ℕ) (m : Mark) : Type 0 where
  pub value : m.at ≤ m.value_at
  pub end : m.value_at + m.value_len ≤ len

abbrev pub IsLastInside : ℕ → Option Mark → Type 0
IsLastInside len None = Unit {0}
IsLastInside len (Some m) = IsMarkInside len m

-- a value ends inside
abbrev pub IsPlaceInside : ℕ → Place → Type 0
IsPlaceInside len place = place.at + place.len ≤ len

-- a run begins before it ends, and ends before a place
abbrev pub IsRunWithin : ℕ → Option ℕ → Option ℕ → Type 0
IsRunWithin at None until = until ≡ None
IsRunWithin at (Some first) None = first ≤ at
IsRunWithin at (Some first) (Some until) = (first ≤ until) × (until ≤ at)

-- a partition and its metadata end inside
pub record IsPartInside (len : ℕ) (p : SeenPart) : Type 0 where
  pub end : p.end ≤ len
  pub metadata : IsRunWithin p.end p.primer p.primer_end

-- the run of the partition that goes on, where this place was reached
abbrev pub IsGoingWithin : ℕ → Option SeenPart → Type 0
IsGoingWithin at None = Unit {0}
IsGoingWithin at (Some p) = IsRunWithin at p.primer p.primer_end

-- all that is kept of items up to a place lies before it
pub record IsSeenInside (at : ℕ) (seen : Seen) : Type 0 where
  pub closed : AllByRecursion (IsPartInside at) seen.closed.items
  pub going : IsGoingWithin at seen.going
  pub elements : AllByRecursion (IsPlaceInside at) seen.elements.items
  pub segments : AllByRecursion (IsMarkInside at) seen.segments.items
  pub last : IsLastInside at seen.last

-- all of a file of this length lies inside
pub record IsInside (len : ℕ) (file : SeenFile) : Type 0 where
  pub len_is : file.len ≡ len
  pub parts : AllByRecursion (IsPartInside len) file.parts.items
  pub elements : AllByRecursion (IsPlaceInside len) file.elements.items
  pub segments : AllByRecursion (IsMarkInside len) file.segments.items
  pub last : IsLastInside len file.last
