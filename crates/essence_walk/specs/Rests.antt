-- What a crash may leave while a disk is only read (own). docs/ARCHITECTURE.md, "The disk".
use Rattle.std.specs.Prelude.{◌⊎◌}
use Rattle.take_disk.specs.Held.{Moment, IsBefore, Areas, Leaves}
use Rattle.take_disk.specs.Calls.{IfTold}
use Rattle.take_disk.specs.declared.disk.TakeDisk.{Ghosts}

-- Where the first disk tells what it holds: what a crash from any moment up to then until now may leave, it might have left
-- before, or it is left of what was held then.
abbrev pub Rests : {D : Type 0} → Ghosts D → D → D → Type 0
Rests device first now =
    IfTold (device.told first) (λ held. (moment : Moment) (image : Areas) → IsBefore moment (device.moment first)
    → device.images_since now moment image → device.images_since first moment image ⊎ Leaves held image)
