use Rattle.std.proofs.Common.{◌≡◌}
use Rattle.slice_codec.specs.Views.{as_setup}
use Rattle.slice_workers.specs.inner.Readers.{HaveReadings}
use Rattle.slice_workers.proofs.round.take_reading.Given as goal

abbrev pub invariant-readers : goal.invariant-readers
invariant-readers l = record { have : HaveReadings (as_setup l.setup) l.bytes l.readers; same : l.out ≡ l.fn.out }
