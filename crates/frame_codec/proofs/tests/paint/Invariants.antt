use Rattle.std.proofs.Common.{◌≡◌}
use Rattle.frame_codec.proofs.tests.paint.Given as goal

-- the picture keeps its size
abbrev pub invariant-loop-row : goal.invariant-loop-row
invariant-loop-row l = l.picture.size ≡ l.fn.picture.size

abbrev pub invariant-loop-col : goal.invariant-loop-col
invariant-loop-col l = l.picture.size ≡ l.fn.picture.size
