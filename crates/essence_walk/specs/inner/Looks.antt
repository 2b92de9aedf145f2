-- What the steps of a walk find. Private functions alone cite this.
use Rattle.std.specs.Prelude.{◌≡◌, ◌≤◌, ◌+◌, ◌^◌, ℕ, List, [], ◌∷◌, ◌++◌, length, take, Option, Some}
use Rattle.rec_bytes.specs.Configuration.{Fields}
use Rattle.commit_sidecar.specs.Recovers.{file_of}
use Rattle.take_core.specs.declared.mark.Mark.{Mark}
use Rattle.take_layout.specs.Takes.{AreUnits}
use Rattle.take_layout.specs.Walks.{FindsUnit}
use Rattle.take_layout.specs.declared.layout.TakeLayout.{Ghosts}
use Rattle.take_layout.specs.declared.place.Place.{Place}
use Rattle.take_layout.specs.declared.walk.Walk.TheVariants.{Lead}
use Rattle.essence_walk.specs.Essences.{BeginsFile}

-- so many bytes are enough for a head, for any lead with what a look asks for of its unit, and for any tail
pub record HasRoom {L : Type 0} (layout : Ghosts L) (cfg : Fields) (len : ℕ) : Type 0 where
  pub head : length (layout.head cfg) ≤ len
  pub lead : layout.lead_most cfg + 2 ^ 16 ≤ len
  pub tail : layout.tail_most cfg ≤ len

-- the essence begins with the growing file of units that lie at these places
pub record Begins {L : Type 0} (layout : Ghosts L) (cfg : Fields) (essence : List ℕ) (places : List Place) : Type 0 where
  pub units : List (List ℕ)
  pub are_units : AreUnits (layout.is_unit cfg) cfg.max_frames units
  pub lie : places ≡ layout.places_of cfg units
  pub rest : List ℕ
  pub begins : essence ≡ layout.growing cfg units ++ rest

-- the growing file of units that lie at these places ends at this place or before it
abbrev pub EndsBy : {L : Type 0} → Ghosts L → Fields → List Place → ℕ → Type 0
EndsBy layout cfg places limit = (units : List (List ℕ)) → places ≡ layout.places_of cfg units → length (layout.growing cfg units) ≤ limit

-- behind units, these bytes don't begin with a lead and its unit in so many bytes
abbrev pub NoNext : {L : Type 0} → Ghosts L → Fields → List (List ℕ) → List ℕ → ℕ → Type 0
NoNext layout cfg units bytes left =
    (unit rest : List ℕ) → AreUnits (layout.is_unit cfg) cfg.max_frames (units ++ unit ∷ [])
    → bytes ≡ layout.lead cfg units (length unit) ++ (unit ++ rest)
    → length (layout.lead cfg units (length unit)) + length unit ≤ left → ⊥

-- Behind any units whose next lead is so long: where a lead and its unit stand in these bytes, and end within what is left, the
-- length of the unit is found.
abbrev pub FindsNext : {L : Type 0} → Ghosts L → Fields → List ℕ → ℕ → ℕ → Option ℕ → Type 0
FindsNext layout cfg bytes lead_len left found =
    (units : List (List ℕ)) (unit rest : List ℕ) → lead_len ≡ length (layout.lead cfg units (length unit))
    → AreUnits (layout.is_unit cfg) cfg.max_frames (units ++ unit ∷ []) → bytes ≡ layout.lead cfg units (length unit) ++ (unit ++ rest)
    → lead_len + length unit ≤ left → found ≡ Some (length unit)

-- the bytes held begin as these, and a look at them finds a lead so long and this length of its unit
pub record HoldsLead (is_unit : List ℕ → Type 0) (bytes : List ℕ) (at lead_len : ℕ) (held : List ℕ) (unit_len : ℕ) : Type 0 where
  pub have : ℕ
  pub whole : lead_len ≤ have
  pub same : take have held ≡ take have bytes
  pub finds : FindsUnit is_unit (take have held) at (Lead (at + lead_len) unit_len)

-- a unit of a length ends within what is left behind its lead
pub record FitsIn (is_unit : List ℕ → Type 0) (lead_len left unit_len : ℕ) : Type 0 where
  pub within : lead_len + unit_len ≤ left
  pub unit : List ℕ
  pub is : is_unit unit
  pub long : unit_len ≡ length unit

-- up to this place the essence has the growing file of no more units than these
abbrev pub NoMore : {L : Type 0} → Ghosts L → Fields → Mark → List ℕ → List Place → Type 0
NoMore layout cfg mark essence places =
    (units : List (List ℕ)) (rest : List ℕ) → AreUnits (layout.is_unit cfg) cfg.max_frames units → length units ≤ mark.count
    → essence ≡ layout.growing cfg units ++ rest → length (layout.growing cfg units) ≤ mark.length → length units ≤ length places

-- the file of units ends at the mark, and the essence begins with it
pub record Ends {L : Type 0} (layout : Ghosts L) (cfg : Fields) (mark : Mark) (essence : List ℕ) (units : List (List ℕ)) : Type 0 where
  pub length_is : mark.length ≡ length (file_of layout mark.closed cfg units)
  pub rest : List ℕ
  pub begins : essence ≡ file_of layout mark.closed cfg units ++ rest

-- as many places as the mark says, and the file of units that lie there has the mark's length
pub record Fills {L : Type 0} (layout : Ghosts L) (cfg : Fields) (mark : Mark) (places : List Place) : Type 0 where
  pub count : mark.count ≡ length places
  pub length_is : (units : List (List ℕ)) → places ≡ layout.places_of cfg units → mark.length ≡ length (file_of layout mark.closed cfg units)
  pub ends : EndsBy layout cfg places mark.length

-- the essence begins with the file that the mark says, of units that lie at these places
pub record BeginsPlaces {L : Type 0} (layout : Ghosts L) (cfg : Fields) (mark : Mark) (essence : List ℕ) (places : List Place) : Type 0 where
  pub units : List (List ℕ)
  pub file : BeginsFile layout cfg mark essence units
  pub lie : places ≡ layout.places_of cfg units
