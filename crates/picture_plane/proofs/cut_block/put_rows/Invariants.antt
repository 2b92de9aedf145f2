use Rattle.std.proofs.Common.{◌+◌, ◌*◌, ◌/◌, ◌%◌, get_or}
use Rattle.picture_plane.proofs.CutSteps.{HasRowsTo}
use Rattle.picture_plane.proofs.cut_block.put_rows.Given as goal

abbrev pub invariant-loop-r : goal.invariant-loop-r
invariant-loop-r l = HasRowsTo l.r l.block (λ k. get_or l.samples (l.start + k / 8 * l.step + k % 8) 0)
