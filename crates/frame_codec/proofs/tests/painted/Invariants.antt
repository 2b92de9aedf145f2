use Rattle.std.proofs.Common.{◌≡◌}
use Rattle.rec_bytes.specs.Views.{view}
use Rattle.picture_plane.specs.Sizes.{size_of}
use Rattle.frame_codec.proofs.tests.painted.Given as goal

-- the picture keeps the size that the configuration gives
abbrev pub invariant-loop-area : goal.invariant-loop-area
invariant-loop-area l = l.picture.size ≡ size_of (view l.cfg)
