use Rattle.picture_plane.proofs.CutSteps.{rows_more}
use Rattle.picture_plane.proofs.cut_block.cut_edge.Goals as goal

pub loop-r-preserved : goal.loop-r-preserved
loop-r-preserved c =
    let a = c.args in
    rows_more a.picture.now a.field a.plane a.line a.column c.loop-r.r c.loop-r.block c.put_block_row.new.block c.line_at.result.now c.ranges-2.ensures.size
    c.loop-r.invariant c.put_block_row.array_long c.line_at.ensures.value c.line_at.ensures.length c.put_block_row.ensures.row c.put_block_row.ensures.others
