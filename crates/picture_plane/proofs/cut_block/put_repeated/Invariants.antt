use Rattle.picture_plane.proofs.CutSteps.{HasRowTo}
use Rattle.picture_plane.proofs.cut_block.put_repeated.Given as goal

abbrev pub invariant-loop-x : goal.invariant-loop-x
invariant-loop-x l = HasRowTo l.x l.block l.fn.block l.r l.row l.column
