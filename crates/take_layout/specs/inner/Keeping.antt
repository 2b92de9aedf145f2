-- What the fields of a growing file keep.
use Rattle.std.specs.Prelude.{◌≡◌, ◌≤◌, ◌+◌, ◌*◌, ◌^◌, ℕ, List, length}
use Rattle.rec_bytes.specs.Configuration.{Fields}
use Rattle.rec_bytes.specs.Ranges.{IsInRange}
use Rattle.take_layout.specs.Takes.{IsTake}
use Rattle.take_layout.specs.declared.layout.TakeLayout.{Ghosts}
use Rattle.take_layout.specs.declared.place.Place.{Place}

-- the file ends at this place, whatever the units are that lie there
abbrev pub EndsFile : {L : Type 0} → Ghosts L → Fields → List Place → ℕ → Type 0
EndsFile layout cfg places at = (units : List (List ℕ)) → places ≡ layout.places_of cfg units → at ≡ length (layout.growing cfg units)

-- units of the take lie at the places, and the file ends there
pub record KeepsFile {L : Type 0} (layout : Ghosts L) (cfg : Fields) (places : List Place) (at : ℕ) : Type 0 where
  pub ranged : IsInRange cfg
  pub lie : IsTake (layout.is_unit cfg) (layout.places_of cfg) cfg.max_frames places
  pub ends : EndsFile layout cfg places at
  pub small : at ≤ 2 ^ 32 + length places * 2 ^ 33
