use Rattle.std.proofs.Common.{◌≡◌, ◌-◌, length}
use Rattle.rec_bytes.specs.Views.{view}
use Rattle.take_disk.specs.declared.area.Area.TheVariants.{Commits}
use Rattle.take_disk.specs.Calls.{IfTold, Stays}
use Rattle.take_disk.specs.Elapsed.{Elapsed}
use Rattle.essence_walk.specs.Rests.{Rests}
use Rattle.recovery.specs.declared.window.TheConstants.{WINDOW_LEN}
use Rattle.recovery.specs.inner.Windows.{HasPlace, Shows, HasReadTo}
use Rattle.recovery.proofs.window.read_records.Given as goal

-- the records before the gate are open, and the window has the gate's place
abbrev pub invariant-records : goal.invariant-records
invariant-records g l = record {
  read : IfTold (g.D.TakeDisk.told l.fn.disk) (λ told. HasReadTo told.commits.reads (view l.config) l.gate l.mark);
  long : length l.bytes ≡ WINDOW_LEN;
  place : HasPlace l.window (g.D.TakeDisk.length_of l.fn.disk Commits) l.gate;
  shows : IfTold (g.D.TakeDisk.told l.fn.disk) (λ told. Shows l.window l.bytes told.commits.reads);
  stays : Stays (g.D.TakeDisk.told l.fn.disk) (g.D.TakeDisk.told l.disk) (g.D.TakeDisk.length_of l.fn.disk) (g.D.TakeDisk.length_of l.disk);
  rests : Rests g.D.TakeDisk l.fn.disk l.disk;
  time : Elapsed (g.D.TakeDisk.moment l.fn.disk) (g.D.TakeDisk.moment l.disk) (g.D.TakeDisk.images_since l.fn.disk) (g.D.TakeDisk.images_since l.disk)
      (g.D.TakeDisk.made l.fn.disk) (g.D.TakeDisk.made l.disk);
  count : g.D.TakeDisk.fault_count l.disk ≡ g.D.TakeDisk.fault_count l.fn.disk;
}

abbrev pub decreases-records : goal.decreases-records
decreases-records g l = g.D.TakeDisk.length_of l.fn.disk Commits - l.gate
