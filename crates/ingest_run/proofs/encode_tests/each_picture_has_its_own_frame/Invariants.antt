use Rattle.std.proofs.Common.{Some}
use Rattle.ingest_run.proofs.encode_tests.each_picture_has_its_own_frame.Given as goal

-- the feed's bytes are those that are handed in
abbrev pub ghosts-encoded : goal.ghosts-encoded
ghosts-encoded g a = record { bytes = Some a.bytes.now }
