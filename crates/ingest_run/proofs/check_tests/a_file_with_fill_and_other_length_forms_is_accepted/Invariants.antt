use Rattle.std.proofs.Common.{Some, []}
use Rattle.ingest_run.proofs.check_tests.a_file_with_fill_and_other_length_forms_is_accepted.Given as goal

-- the feed's bytes are those that are handed in, and there are none where a take is looked at
abbrev pub ghosts-small_file : goal.ghosts-small_file
ghosts-small_file g a = record { bytes = Some a.feed.now }

abbrev pub ghosts-looked : goal.ghosts-looked
ghosts-looked g a = record { bytes = Some [] }
