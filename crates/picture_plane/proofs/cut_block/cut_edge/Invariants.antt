use Rattle.std.proofs.Common.{◌+◌, ◌/◌, ◌%◌}
use Rattle.picture_plane.specs.Blocks.{repeated_at}
use Rattle.picture_plane.proofs.CutSteps.{HasRowsTo}
use Rattle.picture_plane.proofs.cut_block.cut_edge.Given as goal

abbrev pub invariant-loop-r : goal.invariant-loop-r
invariant-loop-r l = HasRowsTo l.r l.block (λ k. repeated_at l.picture l.field l.plane (l.line + k / 8) (l.column + k % 8))
