use Rattle.std.proofs.Common.{Some}
use Rattle.raw_feed.proofs.picture_tests.a_source_that_failed_inside_a_picture_is_not_asked_again.Given as goal

-- the feed's bytes are those that are handed in
abbrev pub ghosts-memory_first : goal.ghosts-memory_first
ghosts-memory_first g a = record { bytes = Some a.bytes.now }
