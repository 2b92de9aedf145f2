use Rattle.std.proofs.lemmas.List.Elements.{All-same, All-push}
use Rattle.slice_workers.specs.inner.Readers.{HasReadings}
use Rattle.slice_workers.proofs.ReadingLemmas.{none_read}
use Rattle.slice_workers.proofs.decoder.readers_of.Goals as goal

pub readers-preserved : goal.readers-preserved
readers-preserved c = λ setup bytes.
    All-same (HasReadings setup bytes) c.push.new.self.items _ c.in_ok-push.ensures.items
    (All-push (HasReadings setup bytes) c.readers.readers.items c.in_ok-new.field-0 (c.readers.invariant setup bytes) (none_read setup bytes c.in_ok-new.field-0 c.in_ok-new.ensures))
