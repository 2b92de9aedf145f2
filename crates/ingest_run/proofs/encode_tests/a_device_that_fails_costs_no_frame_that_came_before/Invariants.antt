use Rattle.std.proofs.Common.{Some}
use Rattle.ingest_run.proofs.encode_tests.a_device_that_fails_costs_no_frame_that_came_before.Given as goal

-- the feed's bytes are those that are handed in
abbrev pub ghosts-encoded : goal.ghosts-encoded
ghosts-encoded g a = record { bytes = Some a.bytes.now }

abbrev pub ghosts-wrapped : goal.ghosts-wrapped
ghosts-wrapped g a = record { bytes = Some a.bytes.now }
