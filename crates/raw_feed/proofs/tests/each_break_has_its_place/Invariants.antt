use Rattle.std.proofs.Common.{Some}
use Rattle.raw_feed.proofs.tests.each_break_has_its_place.Given as goal

-- the feed's bytes are those that are handed in
abbrev pub ghosts-memory_ending : goal.ghosts-memory_ending
ghosts-memory_ending g a = record { bytes = Some a.bytes.now }
