use Rattle.std.proofs.Common.{sym}
use Rattle.mxf_metadata_reader.specs.inner.Places.{sets_at}
use Rattle.mxf_metadata_reader.proofs.ReadLemmas.{stop_fault}
use Rattle.mxf_metadata_reader.proofs.reading.first_fault.Goals as goal

pub returns-then-stop-bytes : goal.returns-then-stop-bytes
returns-then-stop-bytes c = λ tags table.
    sym (stop_fault tags c.args.bytes.now (sets_at c.args.bytes.now c.args.sets.now) c.args.stop (sym (c.in-None.ensures tags table)) c.if-stop-bytes.true)
