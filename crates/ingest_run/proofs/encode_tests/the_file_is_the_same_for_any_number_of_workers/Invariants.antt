use Rattle.std.proofs.Common.{Some}
use Rattle.ingest_run.proofs.encode_tests.the_file_is_the_same_for_any_number_of_workers.Given as goal

-- the feed's bytes are those that are handed in
abbrev pub ghosts-ran : goal.ghosts-ran
ghosts-ran g a = record { bytes = Some a.bytes.now }
