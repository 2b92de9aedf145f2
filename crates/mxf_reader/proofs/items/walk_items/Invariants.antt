use Rattle.std.proofs.Common.{◌≡◌, ◌≤◌, ◌-◌, Some}
use Rattle.take_disk.specs.Calls.{Stays}
use Rattle.take_disk.specs.Held.{Disk}
use Rattle.take_disk.specs.declared.area.Area.TheVariants.{Essence}
use Rattle.take_disk.specs.Elapsed.{Elapsed}
use Rattle.mxf_reader.specs.inner.Inside.{IsSeenInside}
use Rattle.mxf_reader.specs.inner.Parts.{IsWithin}
use Rattle.mxf_reader.specs.inner.Walks.{IsPassed}
use Rattle.mxf_reader.proofs.items.walk_items.Given as goal

-- the bytes so far are items, of which this is kept
abbrev pub invariant-loop-at : goal.invariant-loop-at
invariant-loop-at g l = record {
  place : l.at ≤ g.D.TakeDisk.length_of l.fn.disk Essence;
  within : IsWithin l.at l.seen.going;
  inside : IsSeenInside l.at l.seen;
  passed : (told : Disk) → g.D.TakeDisk.told l.fn.disk ≡ Some told → IsPassed told.essence.reads l.at l.seen;
  count : g.D.TakeDisk.fault_count l.disk ≡ g.D.TakeDisk.fault_count l.fn.disk;
  stays : Stays (g.D.TakeDisk.told l.fn.disk) (g.D.TakeDisk.told l.disk) (g.D.TakeDisk.length_of l.fn.disk) (g.D.TakeDisk.length_of l.disk);
  time : Elapsed (g.D.TakeDisk.moment l.fn.disk) (g.D.TakeDisk.moment l.disk) (g.D.TakeDisk.images_since l.fn.disk)
      (g.D.TakeDisk.images_since l.disk) (g.D.TakeDisk.made l.fn.disk) (g.D.TakeDisk.made l.disk);
}

abbrev pub decreases-loop-at : goal.decreases-loop-at
decreases-loop-at g l = g.D.TakeDisk.length_of l.fn.disk Essence - l.at
