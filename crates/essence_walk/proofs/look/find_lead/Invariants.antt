use Rattle.std.proofs.Common.{◌≡◌, ◌≤◌, ◌-◌, Some, take, drop, length}
use Rattle.take_disk.specs.Calls.{Stays}
use Rattle.take_disk.specs.Held.{Disk}
use Rattle.take_disk.specs.Elapsed.{Elapsed}
use Rattle.essence_walk.specs.Rests.{Rests}
use Rattle.essence_walk.proofs.look.find_lead.Given as goal

-- the bytes that are held begin as the essence from the place on
abbrev pub invariant-look : goal.invariant-look
invariant-look g l = record {
  order : l.have ≤ l.need;
  lead : l.lead_len ≤ l.need;
  within : l.need ≤ l.left;
  room : l.need ≤ length l.buffer;
  held : (told : Disk) → g.D.TakeDisk.told l.fn.disk ≡ Some told → take l.have l.buffer ≡ take l.have (drop l.at told.essence.reads);
  count : g.D.TakeDisk.fault_count l.disk ≡ g.D.TakeDisk.fault_count l.fn.disk;
  stays : Stays (g.D.TakeDisk.told l.fn.disk) (g.D.TakeDisk.told l.disk) (g.D.TakeDisk.length_of l.fn.disk) (g.D.TakeDisk.length_of l.disk);
  rests : Rests g.D.TakeDisk l.fn.disk l.disk;
  time : Elapsed (g.D.TakeDisk.moment l.fn.disk) (g.D.TakeDisk.moment l.disk) (g.D.TakeDisk.images_since l.fn.disk)
      (g.D.TakeDisk.images_since l.disk) (g.D.TakeDisk.made l.fn.disk) (g.D.TakeDisk.made l.disk);
}

abbrev pub decreases-look : goal.decreases-look
decreases-look g l = l.left - l.need
