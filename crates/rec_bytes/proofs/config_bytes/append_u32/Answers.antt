use Rattle.std.proofs.Common.{refl, arith}
use Rattle.byteorder.specs.Endian.{big_bytes}
use Rattle.rec_bytes.proofs.Writes.{grown}
use Rattle.rec_bytes.proofs.config_bytes.append_u32.Goals as goal

pub returns-clause-appended : goal.returns-clause-appended
returns-clause-appended c = rw c.put_u32.ensures (grown c.args.at 4 c.args.out.now (big_bytes 4 c.args.value) refl (omega (arith, c.requires, c.told-out)))
