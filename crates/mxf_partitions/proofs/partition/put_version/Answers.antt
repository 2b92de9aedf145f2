use Rattle.std.proofs.Common.{◌+◌, refl, arith}
use Rattle.byteorder.specs.Endian.{big_bytes}
use Rattle.rec_bytes.specs.laws.Places.{with_bytes-three}
use Rattle.mxf_partitions.proofs.partition.put_version.Goals as goal

pub returns-clause-written : goal.returns-clause-written
returns-clause-written c =
    with_bytes-three c.args.out.now c.args.at (c.args.at + 2) (c.args.at + 4) (big_bytes 2 c.args.p.now.major) (big_bytes 2 c.args.p.now.minor)
    (big_bytes 4 c.args.p.now.kag) c.put_u16.new.out c.put_u16-2.new.out c.put_u32.new.out refl refl (omega (arith, c.requires))
    (omega (arith, c.requires)) c.put_u16.ensures c.put_u16-2.ensures c.put_u32.ensures
