use Rattle.commit_sidecar.proofs.note.put_note.Goals as goal

pub returns-clause-fits : goal.returns-clause-fits
returns-clause-fits c = record { count = c.numbers.ensures.count; length = c.numbers.ensures.length }
