use Rattle.std.proofs.Common.{◌≡◌, ◌<◌, ◌-◌, ℕ, length, ap, refl, sym, ◌∙◌, subst, arith, inr, Err}
use Rattle.rec_bytes.specs.Configuration.{Fields}
use Rattle.rec_bytes.specs.declared.status.Failed.{Failed}
use Rattle.raw_feed.specs.Reading.{Reading}
use Rattle.run_parts.specs.declared.end.PutFault.{PutFault}
use Rattle.run_parts.specs.declared.end.PutFault.TheVariants.{Memory as NoMemory, Sink}
use Rattle.run_parts.specs.Causes.{counts, HasPutCause}
use Rattle.run_parts.specs.Files.{Growing}
use Rattle.run_parts.specs.Units.{IsRead, RefusesUnit}
use Rattle.run_parts.specs.Statuses.{memory_answer, feed_answer, feed_end_answer, sink_answer}
use Rattle.ingest_run.specs.Runs.{outside}
use Rattle.ingest_run.specs.inner.Steps.{ending_of}
use Rattle.ingest_run.proofs.EndLemmas.{cause_fault, causes_end, causes_put, causes_unit}
use Rattle.ingest_run.proofs.ExitLemmas.{on_head, on_start, on_unit, exit_refused, exit_none, exit_file_head, exit_unit, exit_memory, exit_tail, exit_closed}
use Rattle.ingest_run.proofs.WrapLemmas.{wrapping, exit_refused_unit, exit_refused_tail}
use Rattle.ingest_run.proofs.wrap.wrap_units.Goals as goal

pub returns-in-Err-clause-ran : goal.returns-in-Err-clause-ran
returns-in-Err-clause-ran g c =
    let met = g.met.L.TakeLayout in
    let rests =
    wrapping g.L.TakeLayout (record { starts = met.starts; grows = met.grows; closes = met.closes; no_places = met.no_places })
    (record { units = c.feeds_are_one.ensures.units; configuration = c.feeds_are_one.ensures.configuration }) c.readings_grow.ensures.starts c.readings_grow.ensures.stopped in
    exit_refused rests c.in-Err.fault (outside (g.S.Source.told c.args.feed.now) (g.S.Source.fault_count c.args.feed.now) (g.W.Sink.written c.args.out.now) (g.W.Sink.fault_count c.args.out.now)) (outside (g.S.Source.told c.new.new.source) (g.S.Source.fault_count c.new.new.source) (g.W.Sink.written c.args.out.now) (g.W.Sink.fault_count c.args.out.now)) refl c.in-Err.ensures.refused.1

pub returns-in-Err-clause-cause : goal.returns-in-Err-clause-cause
returns-in-Err-clause-cause g c =
    causes_end (counts (g.S.Source.fault_count c.args.feed.now) (g.W.Sink.fault_count c.args.out.now)) (counts (g.S.Source.fault_count c.new.new.source) (g.W.Sink.fault_count c.args.out.now)) (feed_answer c.in-Err.fault) (cause_fault Reading _ _ c.in-Err.fault (c.faults_are_placed.ensures.head c.in-Err.fault c.in-Err.ensures.refused.0) c.in-Err.ensures.cause) refl

pub returns-in-Err-new-clause-ran : goal.returns-in-Err-new-clause-ran
returns-in-Err-new-clause-ran g c =
    let met = g.met.L.TakeLayout in
    let rests =
    wrapping g.L.TakeLayout (record { starts = met.starts; grows = met.grows; closes = met.closes; no_places = met.no_places })
    (record { units = c.feeds_are_one.ensures.units; configuration = c.feeds_are_one.ensures.configuration }) c.readings_grow.ensures.starts c.readings_grow.ensures.stopped in
    exit_none rests c.in-Ok.reader (outside (g.S.Source.told c.args.feed.now) (g.S.Source.fault_count c.args.feed.now) (g.W.Sink.written c.args.out.now) (g.W.Sink.fault_count c.args.out.now)) (outside (g.S.Source.told c.new.new.source) (g.S.Source.fault_count c.new.new.source) (g.W.Sink.written c.args.out.now) (g.W.Sink.fault_count c.args.out.now)) memory_answer (ap (λ (r : Reading). r.kind) c.in-Ok.ensures.head.0) (ap (λ (r : Reading). r.stage) c.in-Ok.ensures.head.0) refl (on_head rests c.in-Ok.reader (g.S.Source.told c.args.feed.now) (g.S.Source.told c.new.new.source) c.in-Ok.ensures.head) refl

pub returns-in-Err-new-clause-cause : goal.returns-in-Err-new-clause-cause
returns-in-Err-new-clause-cause g c = causes_put (Unit {0}) (counts (g.S.Source.fault_count c.args.feed.now) (g.W.Sink.fault_count c.args.out.now)) (counts (g.S.Source.fault_count c.new.new.source) (g.W.Sink.fault_count c.args.out.now)) NoMemory c.in-Ok.ensures.cause refl

pub returns-in-Err-put_head-clause-ran : goal.returns-in-Err-put_head-clause-ran
returns-in-Err-put_head-clause-ran g c =
    let met = g.met.L.TakeLayout in
    let rests =
    wrapping g.L.TakeLayout (record { starts = met.starts; grows = met.grows; closes = met.closes; no_places = met.no_places })
    (record { units = c.feeds_are_one.ensures.units; configuration = c.feeds_are_one.ensures.configuration }) c.readings_grow.ensures.starts c.readings_grow.ensures.stopped in
    exit_file_head rests Failed c.in-Ok-new.file.config c.in-Ok.reader c.in-Err-put_head.field-0 (outside (g.S.Source.told c.args.feed.now) (g.S.Source.fault_count c.args.feed.now) (g.W.Sink.written c.args.out.now) (g.W.Sink.fault_count c.args.out.now)) (outside (g.S.Source.told c.new.new.source) (g.S.Source.fault_count c.new.new.source) (g.W.Sink.written c.put_head.new.out) (g.W.Sink.fault_count c.put_head.new.out)) (sink_answer (g.W.Sink.fault_count c.put_head.new.out)) (ap (λ (r : Reading). r.kind) c.in-Ok.ensures.head.0) (ap (λ (r : Reading). r.stage) c.in-Ok.ensures.head.0) (ap (λ (f : Growing). f.config) c.in-Ok-new.ensures ∙ c.config.ensures) (on_head rests c.in-Ok.reader (g.S.Source.told c.args.feed.now) (g.S.Source.told c.new.new.source) c.in-Ok.ensures.head) c.in-Err-put_head.ensures.written (inr refl)

pub units-init : goal.units-init
units-init g c =
    let met = g.met.L.TakeLayout in
    let rests =
    wrapping g.L.TakeLayout (record { starts = met.starts; grows = met.grows; closes = met.closes; no_places = met.no_places })
    (record { units = c.feeds_are_one.ensures.units; configuration = c.feeds_are_one.ensures.configuration }) c.readings_grow.ensures.starts c.readings_grow.ensures.stopped in
    let fresh = c.in-Ok.ensures.head.0 in
    let count_is = ap (λ (r : Reading). r.count) fresh in
    let same = c.in-Ok-put_head.ensures.unchanged in
    let none = ap (λ (f : Growing). f.places) same ∙ ap (λ (f : Growing). f.places) c.in-Ok-new.ensures in
    record {
      opened = ap (λ (r : Reading). r.stage) fresh;
      kind = (ap (λ (r : Reading). r.kind) c.in-Ok.ensures.head.0);
      most = omega arith;
      config = ap (λ (f : Growing). f.config) same ∙ (ap (λ (f : Growing). f.config) c.in-Ok-new.ensures ∙ c.config.ensures);
      behind = (let at = ap (λ (r : Reading). r.at) fresh in omega arith);
      counted = ap (length) none ∙ sym count_is;
      passed = on_start rests Failed c.in-Ok-new.file.config c.in-Ok.reader c.put_head.new.self.places (g.S.Source.told c.args.feed.now) (g.S.Source.told c.new.new.source) (g.W.Sink.written c.args.out.now) (g.W.Sink.written c.put_head.new.out) (ap (λ (f : Growing). f.config) c.in-Ok-new.ensures ∙ c.config.ensures) none (on_head rests c.in-Ok.reader (g.S.Source.told c.args.feed.now) (g.S.Source.told c.new.new.source) c.in-Ok.ensures.head) c.in-Ok-put_head.ensures.written;
      source = c.in-Ok.ensures.cause;
      sink = c.in-Ok-put_head.ensures.cause.kept;
    }

pub returns-in-Err-put_unit-clause-ran : goal.returns-in-Err-put_unit-clause-ran
returns-in-Err-put_unit-clause-ran g c =
    let met = g.met.L.TakeLayout in
    let rests =
    wrapping g.L.TakeLayout (record { starts = met.starts; grows = met.grows; closes = met.closes; no_places = met.no_places })
    (record { units = c.feeds_are_one.ensures.units; configuration = c.feeds_are_one.ensures.configuration }) c.readings_grow.ensures.starts c.readings_grow.ensures.stopped in
    let kept = c.units.invariant in
    let reads = rw c.in-Ok-Item.field-0-is at c.in-Ok-Item.ensures.unit in
    let found = rw c.as_slice.ensures at c.in-None.ensures.read in
    let frame = subst (λ (f : Fields). IsRead f c.next_unit.new.unit) (c.config-in-Ok-Item.ensures ∙ (reads.config ∙ sym kept.config)) found in
    let written = rw c.as_slice-in-None.ensures at c.in-Err-put_unit.ensures.written in
    exit_unit rests c.units.file.config c.units.reader c.next_unit.new.reader c.units.file.places (g.S.Source.told c.units.feed) (g.W.Sink.written c.units.out) c.next_unit.new.unit c.next_unit.new.unit c.in-Err-put_unit.fault (outside (g.S.Source.told c.args.feed.now) (g.S.Source.fault_count c.args.feed.now) (g.W.Sink.written c.args.out.now) (g.W.Sink.fault_count c.args.out.now)) (outside (g.S.Source.told c.next_unit.new.feed) (g.S.Source.fault_count c.next_unit.new.feed) (g.W.Sink.written c.put_unit.new.out) (g.W.Sink.fault_count c.put_unit.new.out)) (g.W.Sink.fault_count c.put_unit.new.out) kept.kind kept.config kept.passed c.in-Ok-Item.ensures.silent reads (refl, frame) written

pub returns-in-Err-put_unit-clause-cause : goal.returns-in-Err-put_unit-clause-cause
returns-in-Err-put_unit-clause-cause g c =
    let kept = c.units.invariant in
    causes_put (Unit {0}) (counts (g.S.Source.fault_count c.args.feed.now) (g.W.Sink.fault_count c.args.out.now)) (counts (g.S.Source.fault_count c.next_unit.new.feed) (g.W.Sink.fault_count c.put_unit.new.out)) c.in-Err-put_unit.fault ((rw c.in-Ok-Item.field-0-is at c.in-Ok-Item.ensures.kept) ∙ kept.source)
    (subst (λ (n : ℕ). HasPutCause {T = Unit {0}} n (g.W.Sink.fault_count c.put_unit.new.out) (Err c.in-Err-put_unit.fault)) kept.sink c.in-Err-put_unit.ensures.cause)

pub units-preserved : goal.units-preserved
units-preserved g c =
    let met = g.met.L.TakeLayout in
    let rests =
    wrapping g.L.TakeLayout (record { starts = met.starts; grows = met.grows; closes = met.closes; no_places = met.no_places })
    (record { units = c.feeds_are_one.ensures.units; configuration = c.feeds_are_one.ensures.configuration }) c.readings_grow.ensures.starts c.readings_grow.ensures.stopped in
    let kept = c.units.invariant in
    let reads = rw c.in-Ok-Item.field-0-is at c.in-Ok-Item.ensures.unit in
    let room = reads.room in
    let count_is = reads.count in
    let max_is = ap (λ (f : Fields). f.max_frames) reads.config in
    let found = rw c.as_slice.ensures at c.in-None.ensures.read in
    let frame = subst (λ (f : Fields). IsRead f c.next_unit.new.unit) (c.config-in-Ok-Item.ensures ∙ (reads.config ∙ sym kept.config)) found in
    let written = rw c.as_slice-in-None.ensures at c.in-Ok-put_unit.ensures.written in
    let placed = rw c.as_slice-in-None.ensures at c.in-Ok-put_unit.ensures.placed in
    record {
      opened = reads.stage;
      kind = reads.kind ∙ kept.kind;
      most = omega arith;
      config = c.in-Ok-put_unit.ensures.config ∙ kept.config ∙ sym reads.config;
      behind = (let further = reads.further in let before = kept.behind in omega arith);
      counted = let counted = c.in-Ok-put_unit.ensures.counted in let before = kept.counted in omega arith;
      passed = on_unit rests PutFault c.units.file.config c.units.reader c.next_unit.new.reader c.units.file.places c.put_unit.new.self.places (g.S.Source.told c.args.feed.now) (g.S.Source.told c.units.feed) (g.S.Source.told c.next_unit.new.feed) (g.W.Sink.written c.args.out.now) (g.W.Sink.written c.units.out) (g.W.Sink.written c.put_unit.new.out) c.next_unit.new.unit c.next_unit.new.unit kept.config kept.passed c.in-Ok-Item.ensures.silent reads (refl, frame) placed written;
      source = (rw c.in-Ok-Item.field-0-is at c.in-Ok-Item.ensures.kept) ∙ kept.source;
      sink = c.in-Ok-put_unit.ensures.cause ∙ kept.sink;
    }

pub returns-in-Ok-put_tail-2-clause-ran : goal.returns-in-Ok-put_tail-2-clause-ran
returns-in-Ok-put_tail-2-clause-ran g c =
    let met = g.met.L.TakeLayout in
    let rests =
    wrapping g.L.TakeLayout (record { starts = met.starts; grows = met.grows; closes = met.closes; no_places = met.no_places })
    (record { units = c.feeds_are_one.ensures.units; configuration = c.feeds_are_one.ensures.configuration }) c.readings_grow.ensures.starts c.readings_grow.ensures.stopped in
    let kept = c.units.invariant in
    let ends = rw c.in-Ok-End.field-0-is at c.in-Ok-End.ensures.ended in
    exit_closed rests Failed c.units.file.config c.units.reader c.units.file.places (g.S.Source.told c.units.feed) (g.W.Sink.written c.units.out) (outside (g.S.Source.told c.args.feed.now) (g.S.Source.fault_count c.args.feed.now) (g.W.Sink.written c.args.out.now) (g.W.Sink.fault_count c.args.out.now)) (outside (g.S.Source.told c.next_unit.new.feed) (g.S.Source.fault_count c.next_unit.new.feed) (g.W.Sink.written c.put_tail-in-Ok-End.new.out) (g.W.Sink.fault_count c.put_tail-in-Ok-End.new.out)) (feed_end_answer c.in-Ok-End.end) (ending_of c.in-Ok-End.end) kept.kind kept.config kept.passed c.in-Ok-End.ensures.silent ends c.in-Ok-put_tail-2.ensures.written

pub returns-in-Err-put_tail-2-clause-ran : goal.returns-in-Err-put_tail-2-clause-ran
returns-in-Err-put_tail-2-clause-ran g c =
    let met = g.met.L.TakeLayout in
    let rests =
    wrapping g.L.TakeLayout (record { starts = met.starts; grows = met.grows; closes = met.closes; no_places = met.no_places })
    (record { units = c.feeds_are_one.ensures.units; configuration = c.feeds_are_one.ensures.configuration }) c.readings_grow.ensures.starts c.readings_grow.ensures.stopped in
    let kept = c.units.invariant in
    let ends = rw c.in-Ok-End.field-0-is at c.in-Ok-End.ensures.ended in
    exit_tail rests Failed c.units.file.config c.units.reader c.units.file.places (g.S.Source.told c.units.feed) (g.W.Sink.written c.units.out) c.in-Err-put_tail-2.field-0 (outside (g.S.Source.told c.args.feed.now) (g.S.Source.fault_count c.args.feed.now) (g.W.Sink.written c.args.out.now) (g.W.Sink.fault_count c.args.out.now)) (outside (g.S.Source.told c.next_unit.new.feed) (g.S.Source.fault_count c.next_unit.new.feed) (g.W.Sink.written c.put_tail-in-Ok-End.new.out) (g.W.Sink.fault_count c.put_tail-in-Ok-End.new.out)) (feed_end_answer c.in-Ok-End.end) (sink_answer (g.W.Sink.fault_count c.put_tail-in-Ok-End.new.out)) (ending_of c.in-Ok-End.end) kept.kind kept.config kept.passed c.in-Ok-End.ensures.silent ends c.in-Err-put_tail-2.ensures.written (inr refl)

pub returns-in-Err-next_unit-clause-ran : goal.returns-in-Err-next_unit-clause-ran
returns-in-Err-next_unit-clause-ran g c =
    let met = g.met.L.TakeLayout in
    let rests =
    wrapping g.L.TakeLayout (record { starts = met.starts; grows = met.grows; closes = met.closes; no_places = met.no_places })
    (record { units = c.feeds_are_one.ensures.units; configuration = c.feeds_are_one.ensures.configuration }) c.readings_grow.ensures.starts c.readings_grow.ensures.stopped in
    let kept = c.units.invariant in
    exit_memory rests c.units.reader c.units.file.places (g.S.Source.told c.units.feed) (outside (g.S.Source.told c.args.feed.now) (g.S.Source.fault_count c.args.feed.now) (g.W.Sink.written c.args.out.now) (g.W.Sink.fault_count c.args.out.now)) (outside (g.S.Source.told c.next_unit.new.feed) (g.S.Source.fault_count c.next_unit.new.feed) (g.W.Sink.written c.units.out) (g.W.Sink.fault_count c.units.out)) memory_answer memory_answer _ kept.kind kept.passed c.in-Err-next_unit.ensures.silent c.in-Err-next_unit.ensures.ended refl

pub returns-in-Ok-put_tail-clause-ran : goal.returns-in-Ok-put_tail-clause-ran
returns-in-Ok-put_tail-clause-ran g c =
    let met = g.met.L.TakeLayout in
    let rests =
    wrapping g.L.TakeLayout (record { starts = met.starts; grows = met.grows; closes = met.closes; no_places = met.no_places })
    (record { units = c.feeds_are_one.ensures.units; configuration = c.feeds_are_one.ensures.configuration }) c.readings_grow.ensures.starts c.readings_grow.ensures.stopped in
    let kept = c.units.invariant in
    let reads = rw c.in-Ok-Item.field-0-is at c.in-Ok-Item.ensures.unit in
    let found = rw c.as_slice.ensures at c.in-Some.ensures.refused in
    let refused = subst (λ (f : Fields). RefusesUnit f c.next_unit.new.unit c.in-Some.fault) (c.config-in-Ok-Item.ensures ∙ (reads.config ∙ sym kept.config)) found in
    let count_is = reads.count in
    let number_is : c.read_count-unit.result - 1 ≡ c.units.reader.count = omega (arith, c.read_count-unit.ensures, count_is) in
    exit_refused_unit rests Failed c.units.file.config c.units.reader c.next_unit.new.reader c.units.file.places (g.S.Source.told c.units.feed) (g.W.Sink.written c.units.out) c.next_unit.new.unit c.in-Some.fault (c.read_count-unit.result - 1) (outside (g.S.Source.told c.args.feed.now) (g.S.Source.fault_count c.args.feed.now) (g.W.Sink.written c.args.out.now) (g.W.Sink.fault_count c.args.out.now)) (outside (g.S.Source.told c.next_unit.new.feed) (g.S.Source.fault_count c.next_unit.new.feed) (g.W.Sink.written c.put_tail.new.out) (g.W.Sink.fault_count c.put_tail.new.out)) kept.kind kept.config kept.passed c.in-Ok-Item.ensures.silent reads refused number_is c.in-Ok-put_tail.ensures.written

pub returns-in-Ok-put_tail-clause-cause : goal.returns-in-Ok-put_tail-clause-cause
returns-in-Ok-put_tail-clause-cause g c =
    let kept = c.units.invariant in
    let reads = rw c.in-Ok-Item.field-0-is at c.in-Ok-Item.ensures.unit in
    let found = rw c.as_slice.ensures at c.in-Some.ensures.refused in
    let refused = subst (λ (f : Fields). RefusesUnit f c.next_unit.new.unit c.in-Some.fault) (c.config-in-Ok-Item.ensures ∙ reads.config) found in
    let count_is = reads.count in
    let number_is : c.read_count-unit.result - 1 ≡ c.units.reader.count = omega (arith, c.read_count-unit.ensures, count_is) in
    let few = subst (λ (n : ℕ). n < c.units.reader.config.max_frames) (sym number_is) reads.room in
    causes_unit (counts (g.S.Source.fault_count c.args.feed.now) (g.W.Sink.fault_count c.args.out.now)) (counts (g.S.Source.fault_count c.next_unit.new.feed) (g.W.Sink.fault_count c.put_tail.new.out)) c.units.reader.config c.next_unit.new.unit (c.read_count-unit.result - 1) c.in-Some.fault ((rw c.in-Ok-Item.field-0-is at c.in-Ok-Item.ensures.kept) ∙ kept.source) (c.in-Ok-put_tail.ensures.cause.kept ∙ kept.sink) reads.ranges few (rw c.in-Ok-Item.field-0-is at c.in-Ok-Item.ensures.size) refused

pub returns-in-Err-put_tail-clause-ran : goal.returns-in-Err-put_tail-clause-ran
returns-in-Err-put_tail-clause-ran g c =
    let met = g.met.L.TakeLayout in
    let rests =
    wrapping g.L.TakeLayout (record { starts = met.starts; grows = met.grows; closes = met.closes; no_places = met.no_places })
    (record { units = c.feeds_are_one.ensures.units; configuration = c.feeds_are_one.ensures.configuration }) c.readings_grow.ensures.starts c.readings_grow.ensures.stopped in
    let kept = c.units.invariant in
    let reads = rw c.in-Ok-Item.field-0-is at c.in-Ok-Item.ensures.unit in
    let found = rw c.as_slice.ensures at c.in-Some.ensures.refused in
    let refused = subst (λ (f : Fields). RefusesUnit f c.next_unit.new.unit c.in-Some.fault) (c.config-in-Ok-Item.ensures ∙ (reads.config ∙ sym kept.config)) found in
    exit_refused_tail rests Failed c.units.file.config c.units.reader c.next_unit.new.reader c.units.file.places (g.S.Source.told c.units.feed) (g.W.Sink.written c.units.out) c.next_unit.new.unit c.in-Some.fault c.in-Err-put_tail.field-0 (outside (g.S.Source.told c.args.feed.now) (g.S.Source.fault_count c.args.feed.now) (g.W.Sink.written c.args.out.now) (g.W.Sink.fault_count c.args.out.now)) (outside (g.S.Source.told c.next_unit.new.feed) (g.S.Source.fault_count c.next_unit.new.feed) (g.W.Sink.written c.put_tail.new.out) (g.W.Sink.fault_count c.put_tail.new.out)) (sink_answer (g.W.Sink.fault_count c.put_tail.new.out)) kept.kind kept.config kept.passed c.in-Ok-Item.ensures.silent reads refused c.in-Err-put_tail.ensures.written (inr refl)

pub returns-in-Err-put_tail-clause-cause : goal.returns-in-Err-put_tail-clause-cause
returns-in-Err-put_tail-clause-cause g c =
    let kept = c.units.invariant in
    causes_put (Unit {0}) (counts (g.S.Source.fault_count c.args.feed.now) (g.W.Sink.fault_count c.args.out.now)) (counts (g.S.Source.fault_count c.next_unit.new.feed) (g.W.Sink.fault_count c.put_tail.new.out)) Sink ((rw c.in-Ok-Item.field-0-is at c.in-Ok-Item.ensures.kept) ∙ kept.source)
    (subst (λ (n : ℕ). HasPutCause {T = Unit {0}} n (g.W.Sink.fault_count c.put_tail.new.out) (Err Sink)) kept.sink c.in-Err-put_tail.ensures.cause.failed)
