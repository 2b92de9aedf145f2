use Rattle.std.proofs.Common.{Some}
use Rattle.raw_feed.proofs.tests.a_source_that_failed_is_not_asked_again.Given as goal

-- the feed's bytes are those that are handed in
abbrev pub ghosts-memory_ending : goal.ghosts-memory_ending
ghosts-memory_ending g a = record { bytes = Some a.bytes.now }
