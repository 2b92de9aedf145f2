use Rattle.std.proofs.Common.{inl, inr, refl}
use Rattle.take_commands.specs.Checks.{Checks}
use Rattle.take_commands.proofs.CauseLemmas.{check_cause}
use Rattle.take_commands.proofs.ShowLemmas.{answers_check}
use Rattle.take_commands.proofs.checks.read_line.Goals as goal

pub returns-in-Ok-clause-line : goal.returns-in-Ok-clause-line
returns-in-Ok-clause-line g c =
    λ told is.
    let v = c.in-Ok.ensures.read told is in
    inl (record { units = v.0; contents = c.in-Ok.catalogue; catalogue = v.1; line = c.check_line.ensures; answered = refl })

pub returns-in-Err-clause-refused : goal.returns-in-Err-clause-refused
returns-in-Err-clause-refused g c =
    answers_check Checks (g.D.TakeDisk.told c.args.disk.now) c.in-Err.fault c.check_fault.result c.check_fault.ensures
    (λ bytes written status r. inr r) c.in-Err.ensures.refused

pub returns-in-Err-clause-cause : goal.returns-in-Err-clause-cause
returns-in-Err-clause-cause g c = check_cause _ _ c.in-Err.fault c.check_fault.result c.check_fault.ensures c.in-Err.ensures.cause
