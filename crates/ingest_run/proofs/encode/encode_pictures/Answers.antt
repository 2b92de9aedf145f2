use Rattle.std.proofs.Common.{ℕ, length, ap, refl, sym, ◌∙◌, subst, arith, inr, Err}
use Rattle.rec_bytes.specs.Configuration.{Fields}
use Rattle.rec_bytes.specs.declared.status.Failed.{Failed}
use Rattle.picture_plane.specs.Pictures.{Planes}
use Rattle.picture_plane.specs.Sizes.{size_of}
use Rattle.raw_feed.specs.Pictures.{IsPictureFor, picture_bytes}
use Rattle.raw_feed.specs.Reading.{Reading}
use Rattle.frame_codec.specs.Coded.{IsCodedFrame}
use Rattle.frame_codec.specs.Encodings.{Encoding}
use Rattle.run_parts.specs.declared.end.PutFault.{PutFault}
use Rattle.run_parts.specs.declared.end.PutFault.TheVariants.{Memory as NoMemory, Sink}
use Rattle.run_parts.specs.Causes.{counts, HasPutCause}
use Rattle.run_parts.specs.Files.{Growing}
use Rattle.run_parts.specs.Statuses.{memory_answer, feed_answer, feed_end_answer, sink_answer}
use Rattle.ingest_run.specs.Paces.{IsEncoded}
use Rattle.ingest_run.specs.Runs.{outside}
use Rattle.ingest_run.specs.inner.Steps.{ending_of}
use Rattle.ingest_run.proofs.EndLemmas.{cause_fault, pictures_end, pictures_put}
use Rattle.ingest_run.proofs.EncodeLemmas.{encoding}
use Rattle.ingest_run.proofs.ExitLemmas.{on_head, on_start, on_unit, exit_refused, exit_none, exit_file_head, exit_unit, exit_memory, exit_tail, exit_closed}
use Rattle.ingest_run.proofs.encode.encode_pictures.Goals as goal

pub returns-in-Err-clause-ran : goal.returns-in-Err-clause-ran
returns-in-Err-clause-ran g c =
    let met = g.met.L.TakeLayout in
    let rests =
    encoding g.L.TakeLayout (record { starts = met.starts; grows = met.grows; closes = met.closes; no_places = met.no_places })
    (record { units = c.feeds_are_one.ensures.units; configuration = c.feeds_are_one.ensures.configuration }) c.readings_grow.ensures.starts c.readings_grow.ensures.stopped in
    exit_refused rests c.in-Err.fault (outside (g.S.Source.told c.args.feed.now) (g.S.Source.fault_count c.args.feed.now) (g.W.Sink.written c.args.out.now) (g.W.Sink.fault_count c.args.out.now)) (outside (g.S.Source.told c.new.new.source) (g.S.Source.fault_count c.new.new.source) (g.W.Sink.written c.args.out.now) (g.W.Sink.fault_count c.args.out.now)) refl c.in-Err.ensures.refused.1

pub returns-in-Err-clause-cause : goal.returns-in-Err-clause-cause
returns-in-Err-clause-cause g c =
    pictures_end (counts (g.S.Source.fault_count c.args.feed.now) (g.W.Sink.fault_count c.args.out.now)) (counts (g.S.Source.fault_count c.new.new.source) (g.W.Sink.fault_count c.args.out.now)) (feed_answer c.in-Err.fault) (cause_fault Reading _ _ c.in-Err.fault (c.faults_are_placed.ensures.head c.in-Err.fault c.in-Err.ensures.refused.0) c.in-Err.ensures.cause) refl

pub returns-in-Err-new-clause-ran : goal.returns-in-Err-new-clause-ran
returns-in-Err-new-clause-ran g c =
    let met = g.met.L.TakeLayout in
    let rests =
    encoding g.L.TakeLayout (record { starts = met.starts; grows = met.grows; closes = met.closes; no_places = met.no_places })
    (record { units = c.feeds_are_one.ensures.units; configuration = c.feeds_are_one.ensures.configuration }) c.readings_grow.ensures.starts c.readings_grow.ensures.stopped in
    exit_none rests c.in-Ok.reader (outside (g.S.Source.told c.args.feed.now) (g.S.Source.fault_count c.args.feed.now) (g.W.Sink.written c.args.out.now) (g.W.Sink.fault_count c.args.out.now)) (outside (g.S.Source.told c.new.new.source) (g.S.Source.fault_count c.new.new.source) (g.W.Sink.written c.args.out.now) (g.W.Sink.fault_count c.args.out.now)) memory_answer (ap (λ (r : Reading). r.kind) c.in-Ok.ensures.head.0) (ap (λ (r : Reading). r.stage) c.in-Ok.ensures.head.0) refl (on_head rests c.in-Ok.reader (g.S.Source.told c.args.feed.now) (g.S.Source.told c.new.new.source) c.in-Ok.ensures.head) refl

pub returns-in-Err-new-clause-cause : goal.returns-in-Err-new-clause-cause
returns-in-Err-new-clause-cause g c = pictures_put (Unit {0}) (counts (g.S.Source.fault_count c.args.feed.now) (g.W.Sink.fault_count c.args.out.now)) (counts (g.S.Source.fault_count c.new.new.source) (g.W.Sink.fault_count c.args.out.now)) NoMemory c.in-Ok.ensures.cause refl

pub returns-in-Err-new-2-clause-ran : goal.returns-in-Err-new-2-clause-ran
returns-in-Err-new-2-clause-ran g c =
    let met = g.met.L.TakeLayout in
    let rests =
    encoding g.L.TakeLayout (record { starts = met.starts; grows = met.grows; closes = met.closes; no_places = met.no_places })
    (record { units = c.feeds_are_one.ensures.units; configuration = c.feeds_are_one.ensures.configuration }) c.readings_grow.ensures.starts c.readings_grow.ensures.stopped in
    exit_none rests c.in-Ok.reader (outside (g.S.Source.told c.args.feed.now) (g.S.Source.fault_count c.args.feed.now) (g.W.Sink.written c.args.out.now) (g.W.Sink.fault_count c.args.out.now)) (outside (g.S.Source.told c.new.new.source) (g.S.Source.fault_count c.new.new.source) (g.W.Sink.written c.args.out.now) (g.W.Sink.fault_count c.args.out.now)) memory_answer (ap (λ (r : Reading). r.kind) c.in-Ok.ensures.head.0) (ap (λ (r : Reading). r.stage) c.in-Ok.ensures.head.0) refl (on_head rests c.in-Ok.reader (g.S.Source.told c.args.feed.now) (g.S.Source.told c.new.new.source) c.in-Ok.ensures.head) refl

pub returns-in-Err-new-2-clause-cause : goal.returns-in-Err-new-2-clause-cause
returns-in-Err-new-2-clause-cause g c = pictures_put (Unit {0}) (counts (g.S.Source.fault_count c.args.feed.now) (g.W.Sink.fault_count c.args.out.now)) (counts (g.S.Source.fault_count c.new.new.source) (g.W.Sink.fault_count c.args.out.now)) NoMemory c.in-Ok.ensures.cause refl

pub returns-in-Err-new-3-clause-ran : goal.returns-in-Err-new-3-clause-ran
returns-in-Err-new-3-clause-ran g c =
    let met = g.met.L.TakeLayout in
    let rests =
    encoding g.L.TakeLayout (record { starts = met.starts; grows = met.grows; closes = met.closes; no_places = met.no_places })
    (record { units = c.feeds_are_one.ensures.units; configuration = c.feeds_are_one.ensures.configuration }) c.readings_grow.ensures.starts c.readings_grow.ensures.stopped in
    exit_none rests c.in-Ok.reader (outside (g.S.Source.told c.args.feed.now) (g.S.Source.fault_count c.args.feed.now) (g.W.Sink.written c.args.out.now) (g.W.Sink.fault_count c.args.out.now)) (outside (g.S.Source.told c.new.new.source) (g.S.Source.fault_count c.new.new.source) (g.W.Sink.written c.args.out.now) (g.W.Sink.fault_count c.args.out.now)) memory_answer (ap (λ (r : Reading). r.kind) c.in-Ok.ensures.head.0) (ap (λ (r : Reading). r.stage) c.in-Ok.ensures.head.0) refl (on_head rests c.in-Ok.reader (g.S.Source.told c.args.feed.now) (g.S.Source.told c.new.new.source) c.in-Ok.ensures.head) refl

pub returns-in-Err-new-3-clause-cause : goal.returns-in-Err-new-3-clause-cause
returns-in-Err-new-3-clause-cause g c = pictures_put (Unit {0}) (counts (g.S.Source.fault_count c.args.feed.now) (g.W.Sink.fault_count c.args.out.now)) (counts (g.S.Source.fault_count c.new.new.source) (g.W.Sink.fault_count c.args.out.now)) NoMemory c.in-Ok.ensures.cause refl

pub returns-in-Err-put_head-clause-ran : goal.returns-in-Err-put_head-clause-ran
returns-in-Err-put_head-clause-ran g c =
    let met = g.met.L.TakeLayout in
    let rests =
    encoding g.L.TakeLayout (record { starts = met.starts; grows = met.grows; closes = met.closes; no_places = met.no_places })
    (record { units = c.feeds_are_one.ensures.units; configuration = c.feeds_are_one.ensures.configuration }) c.readings_grow.ensures.starts c.readings_grow.ensures.stopped in
    exit_file_head rests Failed c.in-Ok-new-3.file.config c.in-Ok.reader c.in-Err-put_head.field-0 (outside (g.S.Source.told c.args.feed.now) (g.S.Source.fault_count c.args.feed.now) (g.W.Sink.written c.args.out.now) (g.W.Sink.fault_count c.args.out.now)) (outside (g.S.Source.told c.new.new.source) (g.S.Source.fault_count c.new.new.source) (g.W.Sink.written c.put_head.new.out) (g.W.Sink.fault_count c.put_head.new.out)) (sink_answer (g.W.Sink.fault_count c.put_head.new.out)) (ap (λ (r : Reading). r.kind) c.in-Ok.ensures.head.0) (ap (λ (r : Reading). r.stage) c.in-Ok.ensures.head.0) (ap (λ (f : Growing). f.config) c.in-Ok-new-3.ensures ∙ c.config-3.ensures) (on_head rests c.in-Ok.reader (g.S.Source.told c.args.feed.now) (g.S.Source.told c.new.new.source) c.in-Ok.ensures.head) c.in-Err-put_head.ensures.written (inr refl)

pub returns-in-Err-put_head-clause-cause : goal.returns-in-Err-put_head-clause-cause
returns-in-Err-put_head-clause-cause g c = pictures_put (Unit {0}) (counts (g.S.Source.fault_count c.args.feed.now) (g.W.Sink.fault_count c.args.out.now)) (counts (g.S.Source.fault_count c.new.new.source) (g.W.Sink.fault_count c.put_head.new.out)) Sink c.in-Ok.ensures.cause c.in-Err-put_head.ensures.cause.failed

pub pictures-init : goal.pictures-init
pictures-init g c =
    let met = g.met.L.TakeLayout in
    let rests =
    encoding g.L.TakeLayout (record { starts = met.starts; grows = met.grows; closes = met.closes; no_places = met.no_places })
    (record { units = c.feeds_are_one.ensures.units; configuration = c.feeds_are_one.ensures.configuration }) c.readings_grow.ensures.starts c.readings_grow.ensures.stopped in
    let fresh = c.in-Ok.ensures.head.0 in
    let count_is = ap (λ (r : Reading). r.count) fresh in
    let same = c.in-Ok-put_head.ensures.unchanged in
    let none = ap (λ (f : Growing). f.places) same ∙ ap (λ (f : Growing). f.places) c.in-Ok-new-3.ensures in
    record {
      opened = ap (λ (r : Reading). r.stage) fresh;
      kind = (ap (λ (r : Reading). r.kind) c.in-Ok.ensures.head.0);
      most = omega arith;
      size = ap (λ (p : Planes). p.size) c.in-Ok-new.ensures ∙ ap size_of c.config.ensures;
      coding = ap (λ (e : Encoding). e.config) c.in-Ok-new-2.ensures ∙ c.config-2.ensures;
      config = ap (λ (f : Growing). f.config) same ∙ (ap (λ (f : Growing). f.config) c.in-Ok-new-3.ensures ∙ c.config-3.ensures);
      behind = (let at = ap (λ (r : Reading). r.at) fresh in omega arith);
      counted = ap (length) none ∙ sym count_is;
      passed = on_start rests Failed c.in-Ok-new-3.file.config c.in-Ok.reader c.put_head.new.self.places (g.S.Source.told c.args.feed.now) (g.S.Source.told c.new.new.source) (g.W.Sink.written c.args.out.now) (g.W.Sink.written c.put_head.new.out) (ap (λ (f : Growing). f.config) c.in-Ok-new-3.ensures ∙ c.config-3.ensures) none (on_head rests c.in-Ok.reader (g.S.Source.told c.args.feed.now) (g.S.Source.told c.new.new.source) c.in-Ok.ensures.head) c.in-Ok-put_head.ensures.written;
      source = c.in-Ok.ensures.cause;
      sink = c.in-Ok-put_head.ensures.cause.kept;
    }

pub put_unit-requires-clause-unit : goal.put_unit-requires-clause-unit
put_unit-requires-clause-unit g c =
    let kept = c.pictures.invariant in
    let reads = rw c.in-Ok-Item.field-0-is at c.in-Ok-Item.ensures.picture in
    let whole = rw c.in-Ok-Item.field-0-is at c.in-Ok-Item.ensures.whole in
    let coded : IsCodedFrame c.pictures.reader.config c.next_picture.new.picture c.encode.new.self.frame =
    subst (λ (f : Fields). IsCodedFrame f c.next_picture.new.picture c.encode.new.self.frame) kept.coding c.encode.ensures.coded in
    let short = c.coded_frames_are_short.ensures c.pictures.reader.config c.next_picture.new.picture c.encode.new.self.frame
    (record { ranges = reads.ranges; size = whole.size; whole = whole.whole }) coded in
    let most = short.1 in
    rw c.frame.ensures (c.requires.units c.pictures.file.config c.encode.new.self.frame (omega arith))

pub returns-in-Err-put_unit-clause-ran : goal.returns-in-Err-put_unit-clause-ran
returns-in-Err-put_unit-clause-ran g c =
    let met = g.met.L.TakeLayout in
    let rests =
    encoding g.L.TakeLayout (record { starts = met.starts; grows = met.grows; closes = met.closes; no_places = met.no_places })
    (record { units = c.feeds_are_one.ensures.units; configuration = c.feeds_are_one.ensures.configuration }) c.readings_grow.ensures.starts c.readings_grow.ensures.stopped in
    let kept = c.pictures.invariant in
    let reads = rw c.in-Ok-Item.field-0-is at c.in-Ok-Item.ensures.picture in
    let whole = rw c.in-Ok-Item.field-0-is at c.in-Ok-Item.ensures.whole in
    let coded : IsCodedFrame c.pictures.file.config c.next_picture.new.picture c.encode.new.self.frame =
    subst (λ (f : Fields). IsCodedFrame f c.next_picture.new.picture c.encode.new.self.frame) (kept.coding ∙ sym kept.config) c.encode.ensures.coded in
    let becomes : IsEncoded c.pictures.file.config (picture_bytes c.next_picture.new.picture) c.encode.new.self.frame =
    record { picture = c.next_picture.new.picture; sized = subst (λ (f : Fields). IsPictureFor f c.next_picture.new.picture) (sym kept.config) whole; spelled = refl; coded = coded } in
    let written = rw c.frame.ensures at c.in-Err-put_unit.ensures.written in
    exit_unit rests c.pictures.file.config c.pictures.reader c.next_picture.new.reader c.pictures.file.places (g.S.Source.told c.pictures.feed) (g.W.Sink.written c.pictures.out) (picture_bytes c.next_picture.new.picture) c.encode.new.self.frame c.in-Err-put_unit.fault (outside (g.S.Source.told c.args.feed.now) (g.S.Source.fault_count c.args.feed.now) (g.W.Sink.written c.args.out.now) (g.W.Sink.fault_count c.args.out.now)) (outside (g.S.Source.told c.next_picture.new.feed) (g.S.Source.fault_count c.next_picture.new.feed) (g.W.Sink.written c.put_unit.new.out) (g.W.Sink.fault_count c.put_unit.new.out)) (g.W.Sink.fault_count c.put_unit.new.out) kept.kind kept.config kept.passed c.in-Ok-Item.ensures.silent reads becomes written

pub returns-in-Err-put_unit-clause-cause : goal.returns-in-Err-put_unit-clause-cause
returns-in-Err-put_unit-clause-cause g c =
    let kept = c.pictures.invariant in
    pictures_put (Unit {0}) (counts (g.S.Source.fault_count c.args.feed.now) (g.W.Sink.fault_count c.args.out.now)) (counts (g.S.Source.fault_count c.next_picture.new.feed) (g.W.Sink.fault_count c.put_unit.new.out)) c.in-Err-put_unit.fault ((rw c.in-Ok-Item.field-0-is at c.in-Ok-Item.ensures.kept) ∙ kept.source)
    (subst (λ (n : ℕ). HasPutCause {T = Unit {0}} n (g.W.Sink.fault_count c.put_unit.new.out) (Err c.in-Err-put_unit.fault)) kept.sink c.in-Err-put_unit.ensures.cause)

pub pictures-preserved : goal.pictures-preserved
pictures-preserved g c =
    let met = g.met.L.TakeLayout in
    let rests =
    encoding g.L.TakeLayout (record { starts = met.starts; grows = met.grows; closes = met.closes; no_places = met.no_places })
    (record { units = c.feeds_are_one.ensures.units; configuration = c.feeds_are_one.ensures.configuration }) c.readings_grow.ensures.starts c.readings_grow.ensures.stopped in
    let kept = c.pictures.invariant in
    let reads = rw c.in-Ok-Item.field-0-is at c.in-Ok-Item.ensures.picture in
    let whole = rw c.in-Ok-Item.field-0-is at c.in-Ok-Item.ensures.whole in
    let coded : IsCodedFrame c.pictures.file.config c.next_picture.new.picture c.encode.new.self.frame =
    subst (λ (f : Fields). IsCodedFrame f c.next_picture.new.picture c.encode.new.self.frame) (kept.coding ∙ sym kept.config) c.encode.ensures.coded in
    let becomes : IsEncoded c.pictures.file.config (picture_bytes c.next_picture.new.picture) c.encode.new.self.frame =
    record { picture = c.next_picture.new.picture; sized = subst (λ (f : Fields). IsPictureFor f c.next_picture.new.picture) (sym kept.config) whole; spelled = refl; coded = coded } in
    let room = reads.room in
    let count_is = reads.count in
    let max_is = ap (λ (f : Fields). f.max_frames) reads.config in
    let written = rw c.frame.ensures at c.in-Ok-put_unit.ensures.written in
    let placed = rw c.frame.ensures at c.in-Ok-put_unit.ensures.placed in
    record {
      opened = reads.stage;
      kind = reads.kind ∙ kept.kind;
      most = omega arith;
      size = whole.size ∙ ap size_of (sym reads.config);
      coding = c.encode.ensures.config ∙ kept.coding ∙ sym reads.config;
      config = c.in-Ok-put_unit.ensures.config ∙ kept.config ∙ sym reads.config;
      behind = (let further = reads.further in let before = kept.behind in omega arith);
      counted = let counted = c.in-Ok-put_unit.ensures.counted in let before = kept.counted in omega arith;
      passed = on_unit rests PutFault c.pictures.file.config c.pictures.reader c.next_picture.new.reader c.pictures.file.places c.put_unit.new.self.places (g.S.Source.told c.args.feed.now) (g.S.Source.told c.pictures.feed) (g.S.Source.told c.next_picture.new.feed) (g.W.Sink.written c.args.out.now) (g.W.Sink.written c.pictures.out) (g.W.Sink.written c.put_unit.new.out) (picture_bytes c.next_picture.new.picture) c.encode.new.self.frame kept.config kept.passed c.in-Ok-Item.ensures.silent reads becomes placed written;
      source = (rw c.in-Ok-Item.field-0-is at c.in-Ok-Item.ensures.kept) ∙ kept.source;
      sink = c.in-Ok-put_unit.ensures.cause ∙ kept.sink;
    }

pub returns-in-Ok-put_tail-clause-ran : goal.returns-in-Ok-put_tail-clause-ran
returns-in-Ok-put_tail-clause-ran g c =
    let met = g.met.L.TakeLayout in
    let rests =
    encoding g.L.TakeLayout (record { starts = met.starts; grows = met.grows; closes = met.closes; no_places = met.no_places })
    (record { units = c.feeds_are_one.ensures.units; configuration = c.feeds_are_one.ensures.configuration }) c.readings_grow.ensures.starts c.readings_grow.ensures.stopped in
    let kept = c.pictures.invariant in
    let ends = rw c.in-Ok-End.field-0-is at c.in-Ok-End.ensures.ended in
    exit_closed rests Failed c.pictures.file.config c.pictures.reader c.pictures.file.places (g.S.Source.told c.pictures.feed) (g.W.Sink.written c.pictures.out) (outside (g.S.Source.told c.args.feed.now) (g.S.Source.fault_count c.args.feed.now) (g.W.Sink.written c.args.out.now) (g.W.Sink.fault_count c.args.out.now)) (outside (g.S.Source.told c.next_picture.new.feed) (g.S.Source.fault_count c.next_picture.new.feed) (g.W.Sink.written c.put_tail.new.out) (g.W.Sink.fault_count c.put_tail.new.out)) (feed_end_answer c.in-Ok-End.end) (ending_of c.in-Ok-End.end) kept.kind kept.config kept.passed c.in-Ok-End.ensures.silent ends c.in-Ok-put_tail.ensures.written

pub returns-in-Err-put_tail-clause-ran : goal.returns-in-Err-put_tail-clause-ran
returns-in-Err-put_tail-clause-ran g c =
    let met = g.met.L.TakeLayout in
    let rests =
    encoding g.L.TakeLayout (record { starts = met.starts; grows = met.grows; closes = met.closes; no_places = met.no_places })
    (record { units = c.feeds_are_one.ensures.units; configuration = c.feeds_are_one.ensures.configuration }) c.readings_grow.ensures.starts c.readings_grow.ensures.stopped in
    let kept = c.pictures.invariant in
    let ends = rw c.in-Ok-End.field-0-is at c.in-Ok-End.ensures.ended in
    exit_tail rests Failed c.pictures.file.config c.pictures.reader c.pictures.file.places (g.S.Source.told c.pictures.feed) (g.W.Sink.written c.pictures.out) c.in-Err-put_tail.field-0 (outside (g.S.Source.told c.args.feed.now) (g.S.Source.fault_count c.args.feed.now) (g.W.Sink.written c.args.out.now) (g.W.Sink.fault_count c.args.out.now)) (outside (g.S.Source.told c.next_picture.new.feed) (g.S.Source.fault_count c.next_picture.new.feed) (g.W.Sink.written c.put_tail.new.out) (g.W.Sink.fault_count c.put_tail.new.out)) (feed_end_answer c.in-Ok-End.end) (sink_answer (g.W.Sink.fault_count c.put_tail.new.out)) (ending_of c.in-Ok-End.end) kept.kind kept.config kept.passed c.in-Ok-End.ensures.silent ends c.in-Err-put_tail.ensures.written (inr refl)

pub returns-in-Err-next_picture-clause-ran : goal.returns-in-Err-next_picture-clause-ran
returns-in-Err-next_picture-clause-ran g c =
    let met = g.met.L.TakeLayout in
    let rests =
    encoding g.L.TakeLayout (record { starts = met.starts; grows = met.grows; closes = met.closes; no_places = met.no_places })
    (record { units = c.feeds_are_one.ensures.units; configuration = c.feeds_are_one.ensures.configuration }) c.readings_grow.ensures.starts c.readings_grow.ensures.stopped in
    let kept = c.pictures.invariant in
    exit_memory rests c.pictures.reader c.pictures.file.places (g.S.Source.told c.pictures.feed) (outside (g.S.Source.told c.args.feed.now) (g.S.Source.fault_count c.args.feed.now) (g.W.Sink.written c.args.out.now) (g.W.Sink.fault_count c.args.out.now)) (outside (g.S.Source.told c.next_picture.new.feed) (g.S.Source.fault_count c.next_picture.new.feed) (g.W.Sink.written c.pictures.out) (g.W.Sink.fault_count c.pictures.out)) memory_answer memory_answer _ kept.kind kept.passed c.in-Err-next_picture.ensures.silent c.in-Err-next_picture.ensures.ended refl
