use Rattle.std.proofs.Common.{◌≡◌, length}
use Rattle.ingest_run.specs.Words.{texts, value_in}
use Rattle.ingest_run.proofs.paths.value_among.Given as goal

-- the words that are left give the value that all give
abbrev pub invariant-words : goal.invariant-words
invariant-words l = record {
  same : value_in l.option (texts l.left) ≡ value_in l.option (texts l.words);
}

abbrev pub decreases-words : goal.decreases-words
decreases-words l = length l.left
