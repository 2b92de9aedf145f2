use Rattle.std.proofs.Common.{Some}
use Rattle.ingest_run.proofs.tests.the_parts_stand_where_the_format_says.Given as goal

-- the feed's bytes are those that are handed in
abbrev pub ghosts-wrapped : goal.ghosts-wrapped
ghosts-wrapped g a = record { bytes = Some a.bytes.now }
