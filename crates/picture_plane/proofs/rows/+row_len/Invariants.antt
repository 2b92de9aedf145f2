use Rattle.picture_plane.proofs.rows.+row_len.Given as goal

abbrev pub decreases-row_len : goal.decreases-row_len
decreases-row_len l = l.log2
