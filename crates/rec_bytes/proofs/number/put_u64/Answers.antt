use Rattle.std.proofs.Common.{refl}
use Rattle.byteorder.specs.Endian.{big_bytes}
use Rattle.rec_bytes.proofs.Writes.{put_is}
use Rattle.rec_bytes.proofs.number.put_u64.Goals as goal

pub returns : goal.returns
returns c = put_is c.args.at 8 c.args.out.now c.write_u64.new.buf (big_bytes 8 c.args.value) refl c.requires c.write_u64.ensures
