use Rattle.std.proofs.Common.{◌≡◌, refl, sym, subst}
use Rattle.mxf_take_file.specs.contracts.picture_layout.PictureLayoutTakeLayout.TheImpl.{ghosts as layout}
use Rattle.take_disk.specs.contracts.memory_calls.MemoryDiskTakeDisk.TheImpl.{ghosts as device}
use Rattle.take_disk.specs.Held.{Areas, Disk, Leaves}
use Rattle.take_disk.specs.Logs.{disk_now}
use Rattle.take_disk.specs.Recorded.{logs_of}
use Rattle.take_disk.specs.declared.memory_disk.MemoryDisk.{MemoryDisk}
use Rattle.recovery.specs.Recoveries.{Leads, as_read}
use Rattle.stopped_takes.specs.Stopped.{IsLeftOf}
use Rattle.stopped_takes.proofs.tests.recover_stopped.Goals as goal

pub returns : goal.returns
returns c =
    let seen = c.args.take in
    let image = c.in_ok-image.image in
    let areas : Areas = record { essence = image.essence.bytes.items; commits = image.commits.bytes.items } in
    let same : as_read (disk_now (logs_of image)) ≡ areas = λ i. record { essence = image.essence.reads i; commits = image.commits.reads i } in
    let left : IsLeftOf layout device _ seen areas = record {
      taken = c.stands.ensures;
      held = disk_now (logs_of seen.disk);
      told = refl;
      left = subst (λ (disk : MemoryDisk). Leaves (disk_now (logs_of disk)) areas) c.into_parts-disk.ensures.disk c.in_ok-image.ensures.left;
    } in
    let now : Disk = disk_now (logs_of c.recover.new.disk) in
    c.stopped_takes_are_recovered.ensures.recovered _ seen areas c.in_ok-done.done now
    (c.stopped_takes_are_recovered.ensures.left _ seen areas left)
    (subst (λ (read : Areas). Leads layout c.in_ok-done.done read now) same c.in_ok-done.ensures.recovered)
