use Rattle.picture_plane.proofs.rows.+cut_from.Given as goal

abbrev pub decreases-cut_from : goal.decreases-cut_from
decreases-cut_from l = l.log2
