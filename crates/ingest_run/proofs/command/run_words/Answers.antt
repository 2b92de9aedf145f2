use Rattle.std.proofs.Common.{ap, refl, Err}
use Rattle.take_disk.specs.laws.TimeLaws.{elapsed_none}
use Rattle.ingest_run.specs.declared.words.Command.TheVariants.{Wrap, Encode, Recover, Check, Frame}
use Rattle.ingest_run.proofs.CommandLemmas.{runs_as, runs_fault, leaves_as, leaves_same, causes_wrap, causes_encode, causes_recover, causes_check, causes_frame, causes_fault}
use Rattle.ingest_run.proofs.command.run_words.Goals as goal

pub returns-in-Ok-Wrap-clause-ran : goal.returns-in-Ok-Wrap-clause-ran
returns-in-Ok-Wrap-clause-ran g c =
    runs_as g.L.TakeLayout _ _ _ _ Wrap (rw c.in-Ok-Wrap.field-0-is at c.in-Ok-Wrap.ensures.named) (refl, c.wrap.ensures.ran)

pub returns-in-Ok-Wrap-clause-time : goal.returns-in-Ok-Wrap-clause-time
returns-in-Ok-Wrap-clause-time g c = elapsed_none _ _ _

pub returns-in-Ok-Wrap-clause-disk : goal.returns-in-Ok-Wrap-clause-disk
returns-in-Ok-Wrap-clause-disk g c =
    leaves_as g.L.TakeLayout g.D.TakeDisk _ _ _ Wrap (rw c.in-Ok-Wrap.field-0-is at c.in-Ok-Wrap.ensures.named) (record { same = refl; lengths = λ area. refl })

pub returns-in-Ok-Wrap-clause-cause : goal.returns-in-Ok-Wrap-clause-cause
returns-in-Ok-Wrap-clause-cause g c = causes_wrap _ _ _ _ (rw c.in-Ok-Wrap.field-0-is at c.in-Ok-Wrap.ensures.named) c.wrap.ensures.cause

pub returns-in-Ok-Encode-clause-ran : goal.returns-in-Ok-Encode-clause-ran
returns-in-Ok-Encode-clause-ran g c =
    runs_as g.L.TakeLayout _ _ _ _ (Encode c.in-Ok-Encode.workers) (rw c.in-Ok-Encode.field-0-is at c.in-Ok-Encode.ensures.named) (refl, c.encode.ensures.ran)

pub returns-in-Ok-Encode-clause-time : goal.returns-in-Ok-Encode-clause-time
returns-in-Ok-Encode-clause-time g c = elapsed_none _ _ _

pub returns-in-Ok-Encode-clause-disk : goal.returns-in-Ok-Encode-clause-disk
returns-in-Ok-Encode-clause-disk g c =
    leaves_as g.L.TakeLayout g.D.TakeDisk _ _ _ (Encode c.in-Ok-Encode.workers) (rw c.in-Ok-Encode.field-0-is at c.in-Ok-Encode.ensures.named) (record { same = refl; lengths = λ area. refl })

pub returns-in-Ok-Encode-clause-cause : goal.returns-in-Ok-Encode-clause-cause
returns-in-Ok-Encode-clause-cause g c = causes_encode _ _ _ _ c.in-Ok-Encode.workers (rw c.in-Ok-Encode.field-0-is at c.in-Ok-Encode.ensures.named) c.encode.ensures.cause

pub returns-in-Ok-Recover-clause-ran : goal.returns-in-Ok-Recover-clause-ran
returns-in-Ok-Recover-clause-ran g c =
    runs_as g.L.TakeLayout _ _ _ _ Recover (rw c.in-Ok-Recover.field-0-is at c.in-Ok-Recover.ensures.named) (refl, rw c.take_end.ensures c.recover.ensures.ran)

pub returns-in-Ok-Recover-clause-disk : goal.returns-in-Ok-Recover-clause-disk
returns-in-Ok-Recover-clause-disk g c =
    leaves_as g.L.TakeLayout g.D.TakeDisk _ _ _ Recover (rw c.in-Ok-Recover.field-0-is at c.in-Ok-Recover.ensures.named) (c.recover.ensures.safe, c.recover.ensures.one)

pub returns-in-Ok-Recover-clause-cause : goal.returns-in-Ok-Recover-clause-cause
returns-in-Ok-Recover-clause-cause g c =
    causes_recover _ _ _ _ (rw c.in-Ok-Recover.field-0-is at c.in-Ok-Recover.ensures.named) (rw c.take_end.ensures c.recover.ensures.cause)

pub returns-in-Ok-Check-clause-ran : goal.returns-in-Ok-Check-clause-ran
returns-in-Ok-Check-clause-ran g c =
    runs_as g.L.TakeLayout _ _ _ _ Check (rw c.in-Ok-Check.field-0-is at c.in-Ok-Check.ensures.named) (refl, rw c.take_end-in-Ok-Check.ensures c.check.ensures.ran)

pub returns-in-Ok-Check-clause-disk : goal.returns-in-Ok-Check-clause-disk
returns-in-Ok-Check-clause-disk g c =
    leaves_as g.L.TakeLayout g.D.TakeDisk _ _ _ Check (rw c.in-Ok-Check.field-0-is at c.in-Ok-Check.ensures.named) c.check.ensures.stays

pub returns-in-Ok-Check-clause-cause : goal.returns-in-Ok-Check-clause-cause
returns-in-Ok-Check-clause-cause g c =
    causes_check _ _ _ _ (rw c.in-Ok-Check.field-0-is at c.in-Ok-Check.ensures.named) (rw c.take_end-in-Ok-Check.ensures c.check.ensures.cause)

pub returns-in-Ok-Frame-clause-ran : goal.returns-in-Ok-Frame-clause-ran
returns-in-Ok-Frame-clause-ran g c =
    runs_as g.L.TakeLayout _ _ _ _ (Frame c.in-Ok-Frame.number) (rw c.in-Ok-Frame.field-0-is at c.in-Ok-Frame.ensures.named)
    (refl, rw c.take_end-in-Ok-Frame.ensures (rw c.from.ensures at c.frame.ensures.ran))

pub returns-in-Ok-Frame-clause-disk : goal.returns-in-Ok-Frame-clause-disk
returns-in-Ok-Frame-clause-disk g c =
    leaves_as g.L.TakeLayout g.D.TakeDisk _ _ _ (Frame c.in-Ok-Frame.number) (rw c.in-Ok-Frame.field-0-is at c.in-Ok-Frame.ensures.named) c.frame.ensures.stays

pub returns-in-Ok-Frame-clause-cause : goal.returns-in-Ok-Frame-clause-cause
returns-in-Ok-Frame-clause-cause g c =
    causes_frame _ _ _ _ c.in-Ok-Frame.number (rw c.in-Ok-Frame.field-0-is at c.in-Ok-Frame.ensures.named) (rw c.take_end-in-Ok-Frame.ensures c.frame.ensures.cause)

pub returns-in-Err-clause-ran : goal.returns-in-Err-clause-ran
returns-in-Err-clause-ran g c =
    runs_fault g.L.TakeLayout _ _ c.in-Err.fault (record { units = c.feeds_are_one.ensures.units; configuration = c.feeds_are_one.ensures.configuration }) (λ e. c.in-Err.ensures.refused (ap Err e))

pub returns-in-Err-clause-disk : goal.returns-in-Err-clause-disk
returns-in-Err-clause-disk g c = leaves_same g.L.TakeLayout g.D.TakeDisk _ _

pub returns-in-Err-clause-time : goal.returns-in-Err-clause-time
returns-in-Err-clause-time g c = elapsed_none _ _ _

pub returns-in-Err-clause-cause : goal.returns-in-Err-clause-cause
returns-in-Err-clause-cause g c = causes_fault _ _ c.in-Err.fault (λ e. c.in-Err.ensures.refused (ap Err e))
