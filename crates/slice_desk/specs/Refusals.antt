-- Why a desk takes no picture or no slice (own).
use Rattle.std.specs.Prelude.{◌≡◌, ◌+◌, ℕ, true}
use Rattle.slice_desk.specs.Desks.{DeskSeen, IsInDesk, is_in}
use Rattle.slice_desk.specs.Slices.{DoneSeen}
use Rattle.slice_desk.specs.declared.in_flight.InFlight.{InFlight}

-- four frames are in flight
pub record IsFull (desk : DeskSeen) (fault : InFlight) : Type 0 where
  pub lowest : fault.lowest ≡ desk.lowest
  pub offered : fault.offered ≡ desk.offered
  pub four : desk.offered ≡ desk.lowest + 4

-- the slice's frame isn't in flight, or has no such slice
abbrev pub IsStranger : ℕ → DeskSeen → DoneSeen → Type 0
IsStranger slices desk done = IsInDesk slices desk done.frame done.index → ⊥

-- the slice is in already
pub record IsDouble (slices : ℕ) (desk : DeskSeen) (done : DoneSeen) : Type 0 where
  pub in_desk : IsInDesk slices desk done.frame done.index
  pub there : is_in desk.kept done.frame done.index ≡ true
