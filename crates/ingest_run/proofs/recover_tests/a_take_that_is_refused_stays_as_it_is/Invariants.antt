use Rattle.std.proofs.Common.{Some, []}
use Rattle.ingest_run.proofs.recover_tests.a_take_that_is_refused_stays_as_it_is.Given as goal

-- the feed's bytes are those that are handed in, and there are none where a take is recovered
abbrev pub ghosts-small_file : goal.ghosts-small_file
ghosts-small_file g a = record { bytes = Some a.feed.now }

abbrev pub ghosts-recovered : goal.ghosts-recovered
ghosts-recovered g a = record { bytes = Some [] }
