use Rattle.mxf_metadata_reader.proofs.WrittenMetadata.{is_read_back}
use Rattle.mxf_metadata_reader.proofs.reading.metadata_is_read.Goals as goal

pub returns : goal.returns
returns c = λ cfg ids frames h r f. is_read_back cfg ids frames h r f (c.sets_are_linked.ensures.resolved cfg ids frames)
