-- What one or two writes of an area do, from a place on.
use Rattle.std.specs.Prelude.{◌≡◌, ◌+◌, ◌⊎◌, ℕ, List, length, Result, OnOk}
use Rattle.take_disk.specs.Calls.{IfTold, Steps, WritesIn, Writes, Grows}
use Rattle.take_disk.specs.Held.{Moment, IsBefore, Areas, Disk, Leaves}
use Rattle.take_disk.specs.declared.area.Area.{Area}
use Rattle.take_disk.specs.declared.disk.TakeDisk.{Ghosts}
use Rattle.take_disk.specs.declared.ticket.Ticket.{Ticket}

-- a crash may leave this of a disk that has changed from a place on, in so many bytes
pub record LeavesWritten (area : Area) (at count : ℕ) (held : Disk) (image : Areas) : Type 0 where
  pub written : Disk
  pub torn : WritesIn area at count held written
  pub left : Leaves written image

-- So many bytes may have changed, and a crash meanwhile has left what it might have left before, or what it may leave where
-- they have changed. A ticket that was made stays so.
pub record WritesInside {D : Type 0} (device : Ghosts D) (area : Area) (at count : ℕ) (old new : D) : Type 0 where
  pub later : IsBefore (device.moment old) (device.moment new)
  pub torn : Steps (device.told old) (device.told new) (WritesIn area at count)
  pub left : IfTold (device.told old) (λ held. (moment : Moment) (image : Areas) → IsBefore moment (device.moment old)
      → device.images_since new moment image → device.images_since old moment image ⊎ LeavesWritten area at count held image)
  pub tickets : (ticket : Ticket) → device.made old ticket → device.made new ticket

-- these bytes were written, or some of them where the disk failed
pub record Wrote {D E : Type 0} (device : Ghosts D) (area : Area) (at : ℕ) (bytes : List ℕ) (old new : D) (result : Result (Unit {0}) E) : Type 0 where
  pub inside : WritesInside device area at (length bytes) old new
  pub written : OnOk result (Steps (device.told old) (device.told new) (Writes area at bytes))
  pub lengths : Grows area (at + length bytes) (device.length_of old) (device.length_of new) result
