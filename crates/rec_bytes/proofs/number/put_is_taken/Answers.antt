use Rattle.rec_bytes.proofs.Writes.{taken}
use Rattle.rec_bytes.proofs.number.put_is_taken.Goals as goal

pub returns : goal.returns
returns c = taken
