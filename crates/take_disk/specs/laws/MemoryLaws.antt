-- What is true of the record of every disk in memory (own). The laws of `TakeDisk` cite this.
use Rattle.std.proofs.Common.{◌≡◌, List, ℕ, length, sym, ◌∙◌, ap, Some}
use Rattle.std.proofs.lemmas.Option.{same_Some}
use Rattle.take_disk.specs.declared.area.Area.{Area}
use Rattle.take_disk.specs.declared.area.Area.TheVariants.{Essence, Commits}
use Rattle.take_disk.specs.declared.memory_disk.MemoryDisk.{MemoryDisk}
use Rattle.take_disk.specs.Held.{Disk, in_area}
use Rattle.take_disk.specs.Logs.{now, disk_now}
use Rattle.take_disk.specs.Recorded.{logs_of, bytes_of}
use Rattle.take_disk.specs.Entered.{log_of}
use Rattle.take_disk.specs.laws.LogLaws.{IsCurrent}

pub essence_current : (d : MemoryDisk) → IsCurrent (log_of d.essence) (now (logs_of d))
essence_current d = record { latest = d.essence_past; settled = d.essence.settled }

pub commits_current : (d : MemoryDisk) → IsCurrent (log_of d.commits) (now (logs_of d))
commits_current d = record { latest = d.commits_past; settled = d.commits.settled }

-- an area reads its bytes
pub memory_reads : (d : MemoryDisk) (area : Area) → (in_area area (disk_now (logs_of d))).reads ≡ bytes_of d area
memory_reads d Essence = d.essence.reads
memory_reads d Commits = d.commits.reads

pub memory_long : (d : MemoryDisk) (disk : Disk) (area : Area) → Some (disk_now (logs_of d)) ≡ Some disk
    → length (bytes_of d area) ≡ length ((in_area area disk).reads)
memory_long d disk area told = ap (λ (l : List ℕ). length l) (sym (memory_reads d area))
    ∙ ap (λ (x : Disk). length ((in_area area x).reads)) (same_Some (disk_now (logs_of d)) disk told)
