use Rattle.std.proofs.Common.{◌∙◌, ℕ, Bool, Err, ap, subst, refl}
use Rattle.raw_feed.specs.declared.stage.Stage.{Stage}
use Rattle.raw_feed.specs.Reading.{Reading, GivesMarker, RefusesMarker, HasReaderCause}
use Rattle.run_parts.specs.Statuses.{answer}
use Rattle.ingest_run.proofs.EndLemmas.{cause_fault}
use Rattle.ingest_run.proofs.next.read_end.Goals as goal

pub returns-in-Ok-true-clause-ended : goal.returns-in-Ok-true-clause-ended
returns-in-Ok-true-clause-ended g c =
    let marked = rw c.in-Ok-true.field-0-test at c.in-Ok-true.ensures.marked in
    let gives = subst (λ (s : Stage). GivesMarker s c.args.reader.now c.marker.new.self (g.S.Source.told c.args.feed.now) (g.S.Source.told c.marker.new.source)) c.requires.open marked in
    record {
      answered = ap (λ (n : ℕ). answer 10 95 n 0) (c.read_count.ensures ∙ ap (λ (r : Reading). r.count) gives.0);
      ends = λ units before has. c.readings_end.ensures.full c.args.reader.now c.marker.new.self units before (g.S.Source.told c.args.feed.now) (g.S.Source.told c.marker.new.source) has c.requires.full marked;
    }

pub returns-in-Ok-false-clause-ended : goal.returns-in-Ok-false-clause-ended
returns-in-Ok-false-clause-ended g c = record {
  answered = refl;
  ends = λ units before has. c.readings_end.ensures.clean c.args.reader.now c.marker.new.self units before (g.S.Source.told c.args.feed.now) (g.S.Source.told c.marker.new.source) has (rw c.in-Ok-false.field-0-test at c.in-Ok-false.ensures.ended);
}

pub returns-in-Err-clause-ended : goal.returns-in-Err-clause-ended
returns-in-Err-clause-ended g c = record {
  answered = refl;
  ends = λ units before has. c.readings_end.ensures.marker c.args.reader.now c.marker.new.self units before (g.S.Source.told c.args.feed.now) (g.S.Source.told c.marker.new.source) c.in-Err.fault has c.in-Err.ensures.refused;
}

pub returns-in-Err-clause-cause : goal.returns-in-Err-clause-cause
returns-in-Err-clause-cause g c =
    let refuses = subst (λ (s : Stage). RefusesMarker s c.args.reader.now c.marker.new.self (g.S.Source.told c.args.feed.now) (g.S.Source.told c.marker.new.source) c.in-Err.fault) c.requires.open c.in-Err.ensures.refused in
    cause_fault Bool _ _ c.in-Err.fault (c.faults_are_placed.ensures.marker c.args.reader.now.at c.in-Err.fault c.requires.behind refuses.0)
    (subst (λ (s : Stage). HasReaderCause {T = Bool} s (g.S.Source.fault_count c.args.feed.now) (g.S.Source.fault_count c.marker.new.source) (Err c.in-Err.fault)) c.requires.open c.in-Err.ensures.cause)
