use Rattle.slice_codec.specs.Views.{as_setup}
use Rattle.slice_workers.specs.inner.Readers.{IsReading}
use Rattle.slice_workers.proofs.ReadingLemmas.{more_read, still_within}
use Rattle.slice_workers.proofs.reader.read_job.Goals as goal

pub returns-clause-has : goal.returns-clause-has
returns-clause-has c =
    let is : IsReading (as_setup c.args.setup.now) c.args.bytes.now c.read_slice.new.out = rw c.requires.setup at c.read_slice.ensures.is in
    record {
      used = still_within c.args.reader.now.used c.args.reader.now.readings.items c.read_slice.new.out c.requires.room;
      readings = more_read (as_setup c.args.setup.now) c.args.bytes.now c.args.reader.now.used c.args.reader.now.readings.items c.read_slice.new.out c.requires.room c.requires.has.readings is;
    }
