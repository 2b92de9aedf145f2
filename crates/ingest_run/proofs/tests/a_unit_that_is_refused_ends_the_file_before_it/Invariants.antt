use Rattle.std.proofs.Common.{Some}
use Rattle.ingest_run.proofs.tests.a_unit_that_is_refused_ends_the_file_before_it.Given as goal

-- the feed's bytes are those that are handed in
abbrev pub ghosts-wrapped : goal.ghosts-wrapped
ghosts-wrapped g a = record { bytes = Some a.bytes.now }
