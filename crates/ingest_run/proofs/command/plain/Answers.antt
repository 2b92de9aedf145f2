use Rattle.ingest_run.proofs.command.plain.Goals as goal

pub returns-clause-ran : goal.returns-clause-ran
returns-clause-ran g c = rw c.run_status.ensures c.run_words.ensures.ran

pub returns-clause-cause : goal.returns-clause-cause
returns-clause-cause g c = rw c.run_status.ensures c.run_words.ensures.cause
