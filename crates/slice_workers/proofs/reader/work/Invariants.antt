use Rattle.std.proofs.Common.{◌≡◌}
use Rattle.slice_codec.specs.Views.{as_setup}
use Rattle.slice_workers.specs.inner.Readers.{HasReadings}
use Rattle.slice_workers.proofs.reader.work.Given as goal

abbrev pub invariant-taken : goal.invariant-taken
invariant-taken l = record { setup : l.reader.decoder.setup ≡ l.setup; has : HasReadings (as_setup l.setup) l.bytes l.reader }
