use Rattle.std.proofs.Common.{Some}
use Rattle.raw_feed.proofs.picture_tests.each_break_of_a_picture_has_its_place.Given as goal

-- the feed's bytes are those that are handed in
abbrev pub ghosts-memory_first : goal.ghosts-memory_first
ghosts-memory_first g a = record { bytes = Some a.bytes.now }
