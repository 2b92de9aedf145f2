use Rattle.std.proofs.Common.{take}
use Rattle.ingest_run.specs.Messages.{IsOneLine}
use Rattle.ingest_run.proofs.report.first_line.Given as goal

-- the bytes so far are one line
abbrev pub invariant-loop-at : goal.invariant-loop-at
invariant-loop-at l = record {
  line : IsOneLine (take l.at l.fn.text);
}
