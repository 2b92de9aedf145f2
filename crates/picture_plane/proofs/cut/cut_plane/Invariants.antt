use Rattle.picture_plane.proofs.CutSteps.{HasBlocksTo}
use Rattle.picture_plane.proofs.cut.cut_plane.Given as goal

abbrev pub invariant-loop-b : goal.invariant-loop-b
invariant-loop-b l = HasBlocksTo l.b l.blocks l.fn.blocks l.picture l.name l.plane
