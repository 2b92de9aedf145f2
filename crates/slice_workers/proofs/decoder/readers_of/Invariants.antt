use Rattle.std.proofs.Common.{ℕ, List}
use Rattle.slice_codec.specs.Setups.{Setup}
use Rattle.slice_workers.specs.inner.Readers.{HaveReadings}
use Rattle.slice_workers.proofs.decoder.readers_of.Given as goal

abbrev pub invariant-readers : goal.invariant-readers
invariant-readers l = (setup : Setup) (bytes : List ℕ) → HaveReadings setup bytes l.readers.items
