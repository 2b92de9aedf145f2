use Rattle.std.proofs.Common.{sym}
use Rattle.mxf_metadata_reader.proofs.LinkLemmas.{found_not}
use Rattle.mxf_metadata_reader.proofs.links.is_found.Goals as goal

pub returns-then-id-ne-ID_LEN : goal.returns-then-id-ne-ID_LEN
returns-then-id-ne-ID_LEN c = λ sets holds. sym (found_not c.args.id.now sets c.if-id-ne-ID_LEN.true)
