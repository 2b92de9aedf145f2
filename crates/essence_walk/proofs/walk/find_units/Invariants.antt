use Rattle.std.proofs.Common.{◌≡◌, ◌≤◌, ◌-◌, Some, length}
use Rattle.take_disk.specs.Calls.{Stays}
use Rattle.take_disk.specs.Held.{Disk}
use Rattle.take_disk.specs.Elapsed.{Elapsed}
use Rattle.essence_walk.specs.Rests.{Rests}
use Rattle.essence_walk.specs.inner.Looks.{Begins, EndsBy}
use Rattle.essence_walk.proofs.walk.find_units.Given as goal

-- the essence begins with the file of the units so far
abbrev pub invariant-units : goal.invariant-units
invariant-units g l = record {
  config : l.file.config ≡ l.fn.file.config;
  room : l.file.room ≡ l.fn.file.room;
  few : length l.file.places ≤ l.most;
  ends : EndsBy g.L.TakeLayout l.fn.file.config l.file.places l.mark.length;
  begins : (told : Disk) → g.D.TakeDisk.told l.fn.disk ≡ Some told → Begins g.L.TakeLayout l.fn.file.config told.essence.reads l.fn.file.places
      → Begins g.L.TakeLayout l.fn.file.config told.essence.reads l.file.places;
  count : g.D.TakeDisk.fault_count l.disk ≡ g.D.TakeDisk.fault_count l.fn.disk;
  stays : Stays (g.D.TakeDisk.told l.fn.disk) (g.D.TakeDisk.told l.disk) (g.D.TakeDisk.length_of l.fn.disk) (g.D.TakeDisk.length_of l.disk);
  rests : Rests g.D.TakeDisk l.fn.disk l.disk;
  time : Elapsed (g.D.TakeDisk.moment l.fn.disk) (g.D.TakeDisk.moment l.disk) (g.D.TakeDisk.images_since l.fn.disk)
      (g.D.TakeDisk.images_since l.disk) (g.D.TakeDisk.made l.fn.disk) (g.D.TakeDisk.made l.disk);
}

abbrev pub decreases-units : goal.decreases-units
decreases-units g l = l.most - length l.file.places
