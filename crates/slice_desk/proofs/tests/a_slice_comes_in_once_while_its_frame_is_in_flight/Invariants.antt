use Rattle.std.proofs.Common.{None}
use Rattle.rec_bytes.specs.Views.{view}
use Rattle.slice_desk.proofs.tests.a_slice_comes_in_once_while_its_frame_is_in_flight.Given as goal

abbrev pub ghosts-one_by_one-N-Feed : goal.ghosts-one_by_one-N-Feed
ghosts-one_by_one-N-Feed g a = record { bytes = None }

abbrev pub ghosts-one_by_one-P-DeskName : goal.ghosts-one_by_one-P-DeskName
ghosts-one_by_one-P-DeskName g a = record { config = view a.cfg.now }

abbrev pub ghosts-one_by_one-P-PoolName : goal.ghosts-one_by_one-P-PoolName
ghosts-one_by_one-P-PoolName g a = record { block = a.block }
