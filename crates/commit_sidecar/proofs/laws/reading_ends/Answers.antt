use Rattle.std.proofs.Common.{refl}
use Rattle.commit_sidecar.specs.laws.Reads.{read_said, read_damaged}
use Rattle.commit_sidecar.proofs.laws.reading_ends.Goals as goal

pub returns : goal.returns
returns c = record {
  said = read_said;
  damaged = λ commits cfg at number last read breaks. (read_damaged commits cfg at number last read breaks, refl);
}
