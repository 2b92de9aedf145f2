use Rattle.std.proofs.Common.{◌∙◌, ◌++◌, ap, codes}
use Rattle.rec_bytes.specs.declared.status.Status.{Status}
use Rattle.ingest_run.specs.Messages.{closing, fault_line}
use Rattle.ingest_run.proofs.MessageLemmas.{says_done, says_fault}
use Rattle.ingest_run.proofs.report.report.Goals as goal

pub returns-in_default : goal.returns-in_default
returns-in_default g c = rw c.in_default.is (says_done c.in_default.field-0 _)

pub returns : goal.returns
returns g c =
    let status_is = c.run_status-status.ensures in
    let first = c.as_bytes-2.ensures.value ∙ (c.as_str-2.ensures.value ∙ (c.opening-opening.ensures ∙ ap (λ (s : Status). fault_line s ++ codes "ingest_server: ") status_is)) in
    let third = c.as_bytes-3.ensures.value ∙ (c.closing.ensures ∙ ap closing status_is) in
    rw c.in-Err.is (says_fault c.in-Err.fault _ _ _ _ _ c.first_line-sentence.ensures first third c.say.ensures)
