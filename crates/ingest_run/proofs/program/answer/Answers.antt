use Rattle.std.proofs.Common.{sym, refl}
use Rattle.take_disk.specs.laws.TimeLaws.{elapsed_none}
use Rattle.ingest_run.specs.Helps.{help_of}
use Rattle.ingest_run.specs.Words.{texts}
use Rattle.ingest_run.proofs.ProgramLemmas.{answers_help, answers_command, leaves_help, leaves_command}
use Rattle.ingest_run.proofs.program.answer.Goals as goal

pub returns-in-Some-clause-answered : goal.returns-in-Some-clause-answered
returns-in-Some-clause-answered g c =
    answers_help g.L.TakeLayout (help_of (texts c.args.words.now)) c.in-Some.text.now (texts c.args.words.now) _ _ _ (rw c.in-Some.is at (sym c.help_text.ensures))
    (record { feed = refl; disk = refl; help = c.write_help.ensures })

pub returns-in-Some-clause-disk : goal.returns-in-Some-clause-disk
returns-in-Some-clause-disk g c =
    leaves_help g.L.TakeLayout g.D.TakeDisk (help_of (texts c.args.words.now)) c.in-Some.text.now (texts c.args.words.now) _ (rw c.in-Some.is at (sym c.help_text.ensures))

pub returns-in-Some-clause-time : goal.returns-in-Some-clause-time
returns-in-Some-clause-time g c = elapsed_none _ _ _

pub returns-in-None-clause-answered : goal.returns-in-None-clause-answered
returns-in-None-clause-answered g c =
    answers_command g.L.TakeLayout (help_of (texts c.args.words.now)) (texts c.args.words.now) _ _ _ (rw c.in-None.is at (sym c.help_text.ensures))
    (record { ran = c.run_words.ensures.ran; cause = c.run_words.ensures.cause })

pub returns-in-None-clause-disk : goal.returns-in-None-clause-disk
returns-in-None-clause-disk g c =
    leaves_command g.L.TakeLayout g.D.TakeDisk (help_of (texts c.args.words.now)) (texts c.args.words.now) _ _ (rw c.in-None.is at (sym c.help_text.ensures))
    c.run_words.ensures.disk
