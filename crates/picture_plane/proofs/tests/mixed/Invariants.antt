use Rattle.std.proofs.Common.{◌≡◌}
use Rattle.picture_plane.specs.Views.{as_size}
use Rattle.picture_plane.proofs.tests.mixed.Given as goal

abbrev pub invariant-loop-at : goal.invariant-loop-at
invariant-loop-at g l = l.picture.size ≡ as_size l.fn.size
