-- What crashes leave over any number of calls of a disk (own). docs/ARCHITECTURE.md, "The phases of a commit".
use Rattle.std.specs.Prelude.{◌⊎◌, ℕ, List}
use Rattle.rec_bytes.specs.Configuration.{Fields}
use Rattle.take_disk.specs.Held.{IsBefore, Moment, Areas}
use Rattle.take_disk.specs.Calls.{IfTold}
use Rattle.take_disk.specs.declared.disk.TakeDisk.{Ghosts}
use Rattle.take_layout.specs.declared.layout.TakeLayout.{Ghosts as LayoutGhosts}
use Rattle.commit_sidecar.specs.Recovers.{IsSafe}

-- a crash now may leave this
abbrev pub IsLeft : {D : Type 0} → Ghosts D → D → Areas → Type 0
IsLeft device disk image = device.images_since disk (device.moment disk) image

-- where the disk tells what it holds, all that a crash now may leave has a property
abbrev pub AllLeft : {D : Type 0} → Ghosts D → D → (Areas → Type 0) → Type 0
AllLeft device disk P = IfTold (device.told disk) (λ held. (image : Areas) → IsLeft device disk image → P image)

-- Where the first disk tells what it holds: what a crash from any moment up to then until now may leave, it might have left
-- before, or it has a property.
abbrev pub Goes : {D : Type 0} → Ghosts D → D → D → (Areas → Type 0) → Type 0
Goes device first now P = IfTold (device.told first) (λ held. (moment : Moment) (image : Areas) → IsBefore moment (device.moment first)
    → device.images_since now moment image → device.images_since first moment image ⊎ P image)

-- so that what a crash may leave is safe
abbrev pub LeavesSafe : {L D : Type 0} → LayoutGhosts L → Ghosts D → Fields → List (List ℕ) → ℕ → D → D → Type 0
LeavesSafe layout device cfg units acked first now = Goes device first now (IsSafe layout cfg units acked)
