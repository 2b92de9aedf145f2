-- What it takes to keep all of both areas.
use Rattle.std.specs.Prelude.{◌≡◌, ℕ}
use Rattle.take_disk.specs.Held.{Areas, Disk, Held, IsBefore, KeepsPlace, Leaves}
use Rattle.recovery.specs.Recoveries.{as_read}

-- every place of an area is kept, and nothing is unsettled
pub record IsKept (held : Held) : Type 0 where
  pub each : (place : ℕ) → KeepsPlace held place
  pub whole : IsBefore held.altered held.synced

-- both areas are read as before, and a crash leaves nothing that it might not have left before
pub record Settles (old new : Disk) : Type 0 where
  pub same : as_read new ≡ as_read old
  pub fewer : (image : Areas) → Leaves new image → Leaves old image

-- and all of both is kept
pub record SettlesAll (old new : Disk) : Type 0 where
  pub settles : Settles old new
  pub essence : IsKept new.essence
  pub commits : IsKept new.commits
