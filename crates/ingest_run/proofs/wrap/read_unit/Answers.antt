use Rattle.std.proofs.Common.{Bool, Err, Ok, subst, refl, arith}
use Rattle.raw_feed.specs.declared.fault.FeedFault.TheVariants.{Memory}
use Rattle.raw_feed.specs.declared.stage.Stage.{Stage}
use Rattle.raw_feed.specs.Items.{Clean}
use Rattle.raw_feed.specs.Reading.{RefusesItem, HasReaderCause}
use Rattle.ingest_run.proofs.EndLemmas.{silent_so, cause_kept, cause_fault}
use Rattle.ingest_run.proofs.wrap.read_unit.Goals as goal

pub returns-in-Ok-false-clause-ended : goal.returns-in-Ok-false-clause-ended
returns-in-Ok-false-clause-ended g c = record {
  answered = refl;
  ends = λ units before has. c.readings_end.ensures.clean c.args.reader.now c.read_unit.new.self units before (g.S.Source.told c.args.feed.now) (g.S.Source.told c.read_unit.new.source) has (rw c.in-Ok-false.field-0-test at c.in-Ok-false.ensures.ended);
}

pub returns-in-Ok-false-clause-cause : goal.returns-in-Ok-false-clause-cause
returns-in-Ok-false-clause-cause g c =
    cause_kept 0 Clean _ _ tt
    (subst (λ (s : Stage). HasReaderCause {T = Bool} s (g.S.Source.fault_count c.args.feed.now) (g.S.Source.fault_count c.read_unit.new.source) (Ok c.in-Ok-false.field-0)) c.requires.open c.in-Ok-false.ensures.cause)
    (λ e. omega arith) (λ e. omega arith)

pub returns-in-Err-Memory-clause-ended : goal.returns-in-Err-Memory-clause-ended
returns-in-Err-Memory-clause-ended g c = record {
  answered = refl;
  ends = λ units before has. c.readings_end.ensures.item c.args.reader.now c.read_unit.new.self units before (g.S.Source.told c.args.feed.now) (g.S.Source.told c.read_unit.new.source) Memory has c.requires.room (rw c.in-Err-Memory.field-0-is at c.in-Err-Memory.ensures.refused);
}

pub returns-in-Err-Memory-clause-cause : goal.returns-in-Err-Memory-clause-cause
returns-in-Err-Memory-clause-cause g c =
    cause_fault Bool _ _ Memory tt
    (subst (λ (s : Stage). HasReaderCause {T = Bool} s (g.S.Source.fault_count c.args.feed.now) (g.S.Source.fault_count c.read_unit.new.source) (Err Memory)) c.requires.open (rw c.in-Err-Memory.field-0-is at c.in-Err-Memory.ensures.cause))

pub returns-in-Err : goal.returns-in-Err
returns-in-Err g c =
    let refuses = subst (λ (s : Stage). RefusesItem s c.args.reader.now c.read_unit.new.self (g.S.Source.told c.args.feed.now) (g.S.Source.told c.read_unit.new.source) c.in-Err.fault) c.requires.open c.in-Err.ensures.refused in
    record {
      unit = tt;
      size = tt;
      ended = record {
        answered = refl;
        ends = λ units before has. c.readings_end.ensures.item c.args.reader.now c.read_unit.new.self units before (g.S.Source.told c.args.feed.now) (g.S.Source.told c.read_unit.new.source) c.in-Err.fault has c.requires.room c.in-Err.ensures.refused;
      };
      silent = silent_so _ _ _ refuses.2;
      kept = tt;
      cause = cause_fault Bool _ _ c.in-Err.fault (c.faults_are_placed.ensures.item c.args.reader.now.at c.in-Err.fault c.requires.behind refuses.0)
          (subst (λ (s : Stage). HasReaderCause {T = Bool} s (g.S.Source.fault_count c.args.feed.now) (g.S.Source.fault_count c.read_unit.new.source) (Err c.in-Err.fault)) c.requires.open c.in-Err.ensures.cause);
    }
