use Rattle.std.proofs.Common.{sym}
use Rattle.mxf_metadata_check.proofs.Ids.{index_not}
use Rattle.mxf_metadata_check.proofs.firsts.first_of.Goals as goal

pub returns-then-id-ne-ID_LEN : goal.returns-then-id-ne-ID_LEN
returns-then-id-ne-ID_LEN c = λ sets tells. sym (index_not 0 sets c.args.id.now c.if-id-ne-ID_LEN.true)
