use Rattle.std.proofs.Common.{◌+◌, refl, arith}
use Rattle.byteorder.specs.Endian.{big_bytes}
use Rattle.rec_bytes.specs.laws.Places.{with_bytes-more}
use Rattle.mxf_partitions.proofs.partition.put_body.Goals as goal

pub returns-clause-written : goal.returns-clause-written
returns-clause-written c =
    with_bytes-more c.args.out.now c.args.at (c.args.at + 8) (big_bytes 8 c.args.p.now.body_offset) (big_bytes 4 c.args.p.now.body_sid)
    c.put_u64.new.out c.put_u32.new.out c.put_u64.ensures refl (omega (arith, c.requires)) c.put_u32.ensures
