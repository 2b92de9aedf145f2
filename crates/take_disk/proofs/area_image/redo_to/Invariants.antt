use Rattle.std.proofs.Common.{◌≡◌, drop}
use Rattle.take_disk.specs.inner.Redone.{redone_to}
use Rattle.take_disk.proofs.area_image.redo_to.Given as goal

-- the deeds that are left make what all make
abbrev pub invariant-loop-k : goal.invariant-loop-k
invariant-loop-k l = redone_to l.upto l.pieces (drop l.k l.entries) l.image.items ≡ redone_to l.upto l.pieces l.entries l.fn.image.items
