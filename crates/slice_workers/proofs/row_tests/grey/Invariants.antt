use Rattle.std.proofs.Common.{◌≡◌}
use Rattle.rec_bytes.specs.Views.{view}
use Rattle.picture_plane.specs.Sizes.{size_of}
use Rattle.slice_workers.proofs.row_tests.grey.Given as goal

abbrev pub invariant-loop-k : goal.invariant-loop-k
invariant-loop-k l = l.picture.size ≡ size_of (view l.cfg)
