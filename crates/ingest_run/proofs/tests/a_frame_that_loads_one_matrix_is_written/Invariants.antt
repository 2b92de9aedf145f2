use Rattle.std.proofs.Common.{Some}
use Rattle.ingest_run.proofs.tests.a_frame_that_loads_one_matrix_is_written.Given as goal

-- the feed's bytes are those that are handed in
abbrev pub ghosts-wrapped : goal.ghosts-wrapped
ghosts-wrapped g a = record { bytes = Some a.bytes.now }
