use Rattle.picture_plane.proofs.PlaceRowSteps.{rows_more}
use Rattle.picture_plane.proofs.place.place_rows.Goals as goal

pub loop-r-preserved : goal.loop-r-preserved
loop-r-preserved c =
    let a = c.args in
    rows_more c.loop-r.r a.start a.step a.block.now a.out.now c.loop-r.out c.place_row.new.out c.requires.apart c.loop-r.invariant c.place_row.ensures
