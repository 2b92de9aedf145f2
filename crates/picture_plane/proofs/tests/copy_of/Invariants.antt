use Rattle.std.proofs.Common.{◌≡◌}
use Rattle.rec_bytes.specs.Views.{view}
use Rattle.picture_plane.specs.Sizes.{size_of}
use Rattle.picture_plane.proofs.tests.copy_of.Given as goal

abbrev pub invariant-loop-index : goal.invariant-loop-index
invariant-loop-index l = l.copy.size ≡ size_of (view l.cfg)
