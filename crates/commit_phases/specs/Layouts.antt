-- What the phases of a commit need of a layout, which every layout has (own). docs/ARCHITECTURE.md, "A take's file".
use Rattle.std.specs.Prelude.{◌≡◌, ◌<◌, ◌^◌, ℕ, Bool, List, [], ◌∷◌, ◌++◌, length}
use Rattle.rec_bytes.specs.Configuration.{Fields}
use Rattle.rec_bytes.specs.Ranges.{IsInRange}
use Rattle.take_layout.specs.Takes.{AreUnits}
use Rattle.take_layout.specs.declared.layout.TakeLayout.{Ghosts}
use Rattle.commit_sidecar.specs.Recovers.{file_of}

-- The growing file of no units is the head; of one unit more it is longer by the lead and the unit; that of more units begins
-- with that of the first ones; and the closed file is the growing one and then the tail. Files have lengths of 64 bits, and begin
-- with the growing file of one list of so many units.
pub record LaysOut {L : Type 0} (layout : Ghosts L) : Type 0 where
  pub starts : (cfg : Fields) → layout.growing cfg [] ≡ layout.head cfg
  pub grows : (cfg : Fields) (units : List (List ℕ)) (unit : List ℕ)
      → layout.growing cfg (units ++ unit ∷ []) ≡ layout.growing cfg units ++ (layout.lead cfg units (length unit) ++ unit)
  pub begins : (cfg : Fields) (units more : List (List ℕ))
      → (rest : List ℕ) × (layout.growing cfg (units ++ more) ≡ layout.growing cfg units ++ rest)
  pub closes : (cfg : Fields) (units : List (List ℕ)) → layout.closed cfg units ≡ layout.growing cfg units ++ layout.tail cfg units
  pub fits : (closed : Bool) (cfg : Fields) (units : List (List ℕ)) → IsInRange cfg
      → AreUnits (layout.is_unit cfg) cfg.max_frames units → length (file_of layout closed cfg units) < 2 ^ 64
  pub one : (cfg : Fields) (units others : List (List ℕ)) (rest other_rest : List ℕ) → IsInRange cfg
      → AreUnits (layout.is_unit cfg) cfg.max_frames units → AreUnits (layout.is_unit cfg) cfg.max_frames others
      → length units ≡ length others → layout.growing cfg units ++ rest ≡ layout.growing cfg others ++ other_rest → units ≡ others
