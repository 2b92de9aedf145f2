-- Which units a mark names in an essence, and where an essence is damaged (own). docs/formats/commits.md, "Damaged essences".
use Rattle.std.specs.Prelude.{◌≡◌, ◌≤◌, ◌<◌, ◌⊎◌, ℕ, true, List, [], ◌++◌, length, take}
use Rattle.rec_bytes.specs.Configuration.{Fields}
use Rattle.commit_sidecar.specs.Recovers.{file_of}
use Rattle.take_core.specs.declared.mark.Mark.{Mark}
use Rattle.take_layout.specs.Takes.{AreUnits}
use Rattle.take_layout.specs.declared.layout.TakeLayout.{Ghosts}
use Rattle.take_layout.specs.declared.place.Place.{Place}

-- the essence begins with the file of these units, of the number and the length that the mark says
pub record BeginsFile {L : Type 0} (layout : Ghosts L) (cfg : Fields) (mark : Mark) (essence : List ℕ) (units : List (List ℕ)) : Type 0 where
  pub are_units : AreUnits (layout.is_unit cfg) cfg.max_frames units
  pub count : mark.count ≡ length units
  pub length_is : mark.length ≡ length (file_of layout mark.closed cfg units)
  pub rest : List ℕ
  pub begins : essence ≡ file_of layout mark.closed cfg units ++ rest

-- the mark names these units: the essence begins with their file, and behind a closed one there is nothing
pub record Names {L : Type 0} (layout : Ghosts L) (cfg : Fields) (mark : Mark) (essence : List ℕ) (units : List (List ℕ)) : Type 0 where
  pub file : BeginsFile layout cfg mark essence units
  pub ends : mark.closed ≡ true → file.rest ≡ []

-- the mark names units that lie at these places
pub record NamesPlaces {L : Type 0} (layout : Ghosts L) (cfg : Fields) (mark : Mark) (essence : List ℕ) (places : List Place) : Type 0 where
  pub units : List (List ℕ)
  pub names : Names layout cfg mark essence units
  pub lie : places ≡ layout.places_of cfg units

-- the essence ends before the mark's length, and this is its end
pub record IsShort (mark : Mark) (essence : List ℕ) (at : ℕ) : Type 0 where
  pub short : length essence < mark.length
  pub place : at ≡ length essence

-- the bytes before this place, which is at most the mark's length, are the growing file of at most as many units as the mark says
pub record IsFront {L : Type 0} (layout : Ghosts L) (cfg : Fields) (mark : Mark) (essence : List ℕ) (at : ℕ) : Type 0 where
  pub within : at ≤ mark.length
  pub units : List (List ℕ)
  pub are_units : AreUnits (layout.is_unit cfg) cfg.max_frames units
  pub few : length units ≤ mark.count
  pub place : at ≡ length (layout.growing cfg units)
  pub is : take at essence ≡ layout.growing cfg units

-- the greatest place of which something holds, or 0 where it holds of none
abbrev pub IsGreatest : (ℕ → Type 0) → ℕ → Type 0
IsGreatest Holds at = (Holds at × ((other : ℕ) → Holds other → other ≤ at)) ⊎ ((at ≡ 0) × ((other : ℕ) → Holds other → ⊥))

-- the essence is long enough and doesn't begin with the file of any units that the mark may mean; this is the greatest place
-- up to which it is a growing file
pub record IsBroken {L : Type 0} (layout : Ghosts L) (cfg : Fields) (mark : Mark) (essence : List ℕ) (at : ℕ) : Type 0 where
  pub long : mark.length ≤ length essence
  pub none : (units : List (List ℕ)) → BeginsFile layout cfg mark essence units → ⊥
  pub place : IsGreatest (IsFront layout cfg mark essence) at

-- the essence begins with the closed file of the units that the mark means, and goes on behind it
pub record IsLonger {L : Type 0} (layout : Ghosts L) (cfg : Fields) (mark : Mark) (essence : List ℕ) (at : ℕ) : Type 0 where
  pub units : List (List ℕ)
  pub file : BeginsFile layout cfg mark essence units
  pub closed : mark.closed ≡ true
  pub longer : mark.length < length essence
  pub place : at ≡ mark.length

-- the essence is damaged, and this is the place
abbrev pub IsDamaged : {L : Type 0} → Ghosts L → Fields → Mark → List ℕ → ℕ → Type 0
IsDamaged layout cfg mark essence at =
    IsShort mark essence at ⊎ (IsBroken layout cfg mark essence at ⊎ IsLonger layout cfg mark essence at)
