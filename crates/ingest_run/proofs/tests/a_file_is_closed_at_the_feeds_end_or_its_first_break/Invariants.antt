use Rattle.std.proofs.Common.{Some}
use Rattle.ingest_run.proofs.tests.a_file_is_closed_at_the_feeds_end_or_its_first_break.Given as goal

-- the feed's bytes are those that are handed in
abbrev pub ghosts-wrapped : goal.ghosts-wrapped
ghosts-wrapped g a = record { bytes = Some a.bytes.now }
