use Rattle.std.proofs.Common.{None}
use Rattle.rec_bytes.specs.Views.{view}
use Rattle.slice_desk.proofs.tests.slices_that_come_in_from_the_last_are_the_frames_of_one_thread.Given as goal

abbrev pub ghosts-four_back-N-Feed : goal.ghosts-four_back-N-Feed
ghosts-four_back-N-Feed g a = record { bytes = None }

abbrev pub ghosts-four_back-P-DeskName : goal.ghosts-four_back-P-DeskName
ghosts-four_back-P-DeskName g a = record { config = view a.cfg.now }

abbrev pub ghosts-four_back-P-PoolName : goal.ghosts-four_back-P-PoolName
ghosts-four_back-P-PoolName g a = record { block = a.block }
