-- What a pair of areas is recovered to, and when it is safe (own). docs/formats/commits.md, "What is recovered".
use Rattle.std.specs.Prelude.{◌≡◌, ◌≤◌, ℕ, Bool, true, if◌then◌else◌, List, [], ◌++◌, length, take}
use Rattle.rec_bytes.specs.Configuration.{Fields}
use Rattle.take_core.specs.declared.mark.Mark.{Mark}
use Rattle.take_disk.specs.Held.{Areas}
use Rattle.take_layout.specs.Takes.{AreUnits}
use Rattle.take_layout.specs.declared.layout.TakeLayout.{Ghosts}
use Rattle.commit_sidecar.specs.Says.{Says, said}

-- the file of units: the closed one, or the growing one
abbrev pub file_of : {L : Type 0} → Ghosts L → Bool → Fields → List (List ℕ) → List ℕ
file_of layout closed cfg units = if closed then layout.closed cfg units else layout.growing cfg units

-- the mark that counts in a take of a layout
abbrev pub mark_of : {L : Type 0} → Ghosts L → Fields → List Mark → Mark
mark_of layout cfg marks = said (length (layout.head cfg)) marks

-- The areas are recovered to these units: the commits say their number, and the essence begins with their file, in the
-- length that the commits say. Behind a closed file there is nothing.
pub record Recovers {L : Type 0} (layout : Ghosts L) (cfg : Fields) (units : List (List ℕ)) (areas : Areas) : Type 0 where
  pub marks : List Mark
  pub says : Says areas.commits cfg marks
  pub are_units : AreUnits (layout.is_unit cfg) cfg.max_frames units
  pub count : (mark_of layout cfg marks).count ≡ length units
  pub length_is : (mark_of layout cfg marks).length ≡ length (file_of layout (mark_of layout cfg marks).closed cfg units)
  pub rest : List ℕ
  pub begins : areas.essence ≡ file_of layout (mark_of layout cfg marks).closed cfg units ++ rest
  pub ends : (mark_of layout cfg marks).closed ≡ true → rest ≡ []

-- the areas are recovered to the first of these units, and to no fewer than were acknowledged
pub record IsSafe {L : Type 0} (layout : Ghosts L) (cfg : Fields) (units : List (List ℕ)) (acked : ℕ) (areas : Areas) : Type 0 where
  pub count : ℕ
  pub at_least : acked ≤ count
  pub at_most : count ≤ length units
  pub recovers : Recovers layout cfg (take count units) areas
