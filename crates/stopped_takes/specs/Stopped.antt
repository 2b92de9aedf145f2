-- Takes that were stopped, and what a recovery makes of them (own). docs/ARCHITECTURE.md, "Recovery".
use Rattle.std.specs.Prelude.{◌≡◌, ℕ, List, length, Option, Some}
use Rattle.take_core.specs.declared.mark.Mark.{Mark}
use Rattle.take_disk.specs.Held.{Areas, Disk, Leaves}
use Rattle.take_disk.specs.declared.disk.TakeDisk.{Ghosts}
use Rattle.take_layout.specs.declared.layout.TakeLayout.{Ghosts as LayoutGhosts}
use Rattle.commit_sidecar.specs.Says.{Says}
use Rattle.commit_sidecar.specs.Recovers.{IsSafe, mark_of}
use Rattle.recovery.specs.Recoveries.{AreKept, KeepsAcked, as_read, mark_in}
use Rattle.recovery.specs.declared.answer.Recovered.{Recovered}
use Rattle.take_state.specs.Seen.{TakeSeen, acked}
use Rattle.take_state.specs.Stands.{IsTaken, IsTakeOf}

-- a take was stopped between two calls, whether it went on, had failed or was whole, and a crash has left this of its disk
pub record IsLeftOf {L D : Type 0} (layout : LayoutGhosts L) (device : Ghosts D) (named : Option (List (List ℕ))) (seen : TakeSeen D) (image : Areas) : Type 0 where
  pub taken : IsTaken layout device named seen
  pub held : Disk
  pub told : device.told seen.disk ≡ Some held
  pub left : Leaves held image

-- areas are recovered to units of a take, and to all of them that were acknowledged
pub record IsSafeFor {L D : Type 0} (layout : LayoutGhosts L) (device : Ghosts D) (named : Option (List (List ℕ))) (seen : TakeSeen D) (image : Areas) : Type 0 where
  pub units : List (List ℕ)
  pub stands : IsTakeOf layout device named seen units
  pub safe : IsSafe layout seen.config units (acked seen) image

-- a disk holds what a crash has left, and all of it is kept
pub record Holds {D : Type 0} (device : Ghosts D) (image : Areas) (disk : D) : Type 0 where
  pub held : Disk
  pub told : device.told disk ≡ Some held
  pub reads : as_read held ≡ image
  pub kept : AreKept held

-- A take of these units, of which some were published, was recovered with this answer. The essence is the closed file of the first of
-- them, as many as the answer counts, and none is missing that was acknowledged; it is as long as the answer says, the commits say
-- so, and all is kept.
pub record IsRecoveredTake {L D : Type 0} (layout : LayoutGhosts L) (device : Ghosts D) (named : Option (List (List ℕ))) (seen : TakeSeen D)
    (done : Recovered) (now : Disk) : Type 0 where
  pub units : List (List ℕ)
  pub stands : IsTakeOf layout device named seen units
  pub keeps : KeepsAcked layout seen.config units (acked seen) done now
  pub length_is : (mark_in done).length ≡ length now.essence.reads
  pub marks : List Mark
  pub says : Says now.commits.reads seen.config marks
  pub mark : mark_of layout seen.config marks ≡ mark_in done
  pub kept : AreKept now
