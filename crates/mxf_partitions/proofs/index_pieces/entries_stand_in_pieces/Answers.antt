use Rattle.mxf_partitions.proofs.PieceLemmas.{piece_entry}
use Rattle.mxf_partitions.proofs.index_pieces.entries_stand_in_pieces.Goals as goal

pub returns : goal.returns
returns c = piece_entry
