use Rattle.std.proofs.Common.{Some}
use Rattle.ingest_run.proofs.message_tests.a_refusal_is_said_in_a_sentence.Given as goal

-- the feed's bytes are those that are handed in
abbrev pub ghosts-reported : goal.ghosts-reported
ghosts-reported g a = record { bytes = Some a.bytes.now }
