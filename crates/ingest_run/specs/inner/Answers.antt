-- The answer that each end of a run gives (own). Private functions alone cite these.
use Rattle.std.specs.Prelude.{Result, Ok, Err}
use Rattle.rec_bytes.specs.declared.status.Status.{Status}
use Rattle.run_parts.specs.Statuses.{answer, feed_answer, memory_answer, sink_answer, unit_answer}
use Rattle.take_commands.specs.Answers.{take_answer}
use Rattle.ingest_run.specs.Programs.{fault_answer}
use Rattle.ingest_run.specs.declared.ended.RunFault.{RunFault}
use Rattle.ingest_run.specs.declared.ended.RunFault.TheVariants.{Words, Feed, Full, Unit as Refused, Memory, Sink, Take}

-- all was done, or a run ended before
abbrev pub run_answer : Result (Unit {0}) RunFault → Status
run_answer (Ok done) = answer 0 0 0 0
run_answer (Err (Words fault)) = fault_answer fault
run_answer (Err (Feed fault)) = feed_answer fault
run_answer (Err (Full items)) = answer 10 95 items 0
run_answer (Err (Refused unit fault)) = unit_answer unit fault
run_answer (Err Memory) = memory_answer
run_answer (Err (Sink count)) = sink_answer count
run_answer (Err (Take fault)) = take_answer (Err fault)
