use Rattle.std.proofs.lemmas.List.Elements.{All-set}
use Rattle.slice_codec.specs.Views.{as_setup}
use Rattle.slice_workers.specs.inner.Readers.{HasReadings}
use Rattle.slice_workers.proofs.round.take_reading.Goals as goal

pub returns-in-Some-clause-have : goal.returns-in-Some-clause-have
returns-in-Some-clause-have c =
    All-set (HasReadings (as_setup c.args.setup.now) c.args.bytes.now) c.readers.readers c.readers.k c.hand_over.new.reader c.hand_over.ensures.has c.readers.invariant.have
