use Rattle.std.proofs.Common.{◌≡◌, ◌≤◌, List, length, map, drop, Some}
use Rattle.std.specs.List.{AllByRecursion}
use Rattle.take_disk.specs.Calls.{Stays}
use Rattle.take_disk.specs.Elapsed.{Elapsed}
use Rattle.take_disk.specs.Held.{Disk}
use Rattle.mxf_op1a.specs.Clauses.{broken_9}
use Rattle.mxf_op1a.specs.Contents.{Placed}
use Rattle.mxf_op1a.specs.Whole.{StandsIn}
use Rattle.mxf_reader.specs.inner.Index.{streams_of}
use Rattle.mxf_reader.specs.inner.Marks.{mark_of}
use Rattle.mxf_reader.proofs.index.clause_9.Given as goal

-- the segments so far have an entry of each of so many elements, and the others are judged by those that are left
abbrev pub invariant-loop-m : goal.invariant-loop-m
invariant-loop-m g l = record {
  few : l.count ≤ length l.file.elements.items;
  left : (told : Disk) → g.D.TakeDisk.told l.fn.disk ≡ Some told → (ps : List Placed) → AllByRecursion (StandsIn told.essence.reads) ps
      → l.file.segments.items ≡ map mark_of ps
      → broken_9 l.file.len 0 (streams_of l.file.elements.items) ps
      ≡ broken_9 l.file.len l.count (drop l.count (streams_of l.file.elements.items)) (drop l.m-index ps);
  faults : g.D.TakeDisk.fault_count l.disk ≡ g.D.TakeDisk.fault_count l.fn.disk;
  stays : Stays (g.D.TakeDisk.told l.fn.disk) (g.D.TakeDisk.told l.disk) (g.D.TakeDisk.length_of l.fn.disk) (g.D.TakeDisk.length_of l.disk);
  time : Elapsed (g.D.TakeDisk.moment l.fn.disk) (g.D.TakeDisk.moment l.disk) (g.D.TakeDisk.images_since l.fn.disk)
      (g.D.TakeDisk.images_since l.disk) (g.D.TakeDisk.made l.fn.disk) (g.D.TakeDisk.made l.disk);
}
