use Rattle.std.proofs.Common.{◌≡◌, drop}
use Rattle.take_disk.specs.inner.Redone.{last_touch}
use Rattle.take_disk.proofs.area_image.touched_last.Given as goal

-- the deeds that are left find what all find
abbrev pub invariant-loop-k : goal.invariant-loop-k
invariant-loop-k l = last_touch l.place l.latest (drop l.k l.entries) ≡ last_touch l.place 0 l.entries
