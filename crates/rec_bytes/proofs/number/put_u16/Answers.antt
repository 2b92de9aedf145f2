use Rattle.std.proofs.Common.{refl}
use Rattle.byteorder.specs.Endian.{big_bytes}
use Rattle.rec_bytes.proofs.Writes.{put_is}
use Rattle.rec_bytes.proofs.number.put_u16.Goals as goal

pub returns : goal.returns
returns c = put_is c.args.at 2 c.args.out.now c.write_u16.new.buf (big_bytes 2 c.args.value) refl c.requires c.write_u16.ensures
