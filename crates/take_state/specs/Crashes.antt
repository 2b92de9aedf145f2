-- What a crash may leave of a take (own). docs/ARCHITECTURE.md, "The state of a take".
use Rattle.std.specs.Prelude.{◌≡◌, ℕ, List, take, Option}
use Rattle.take_disk.specs.Calls.{IfTold}
use Rattle.take_disk.specs.Held.{Areas}
use Rattle.take_disk.specs.declared.disk.TakeDisk.{Ghosts}
use Rattle.take_layout.specs.declared.layout.TakeLayout.{Ghosts as LayoutGhosts}
use Rattle.commit_sidecar.specs.Recovers.{IsSafe}
use Rattle.commit_phases.specs.Goes.{LeavesSafe}
use Rattle.take_state.specs.Seen.{TakeSeen, published, acked}

-- Where the disk tells what it holds and the units are named: all that a crash at a moment since the start of the call may
-- leave is recovered to units that are published at its end, and to all that were durable at its start. So also since an
-- earlier moment, but for what it might have left before; in this form it goes over several calls.
pub record CrashesSafely {L D : Type 0} (layout : LayoutGhosts L) (device : Ghosts D) (named : Option (List (List ℕ))) (old new : TakeSeen D) : Type 0 where
  pub during : IfTold named (λ all. IfTold (device.told old.disk) (λ held. (image : Areas)
      → device.images_since new.disk (device.moment old.disk) image
      → IsSafe layout old.config (take (published new) all) (acked old) image))
  pub since : IfTold named (λ all. LeavesSafe layout device old.config (take (published new) all) (acked old) old.disk new.disk)
