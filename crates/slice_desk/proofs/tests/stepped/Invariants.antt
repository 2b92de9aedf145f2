use Rattle.std.proofs.Common.{◌≡◌}
use Rattle.rec_bytes.specs.Views.{view}
use Rattle.picture_plane.specs.Sizes.{size_of}
use Rattle.slice_desk.proofs.tests.stepped.Given as goal

-- the picture keeps its size
abbrev pub invariant-loop-at : goal.invariant-loop-at
invariant-loop-at g l = l.picture.size ≡ size_of (view l.cfg)
