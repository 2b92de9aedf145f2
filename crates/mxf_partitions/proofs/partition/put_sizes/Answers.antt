use Rattle.std.proofs.Common.{◌+◌, refl, arith}
use Rattle.byteorder.specs.Endian.{big_bytes}
use Rattle.rec_bytes.specs.laws.Places.{with_bytes-three}
use Rattle.mxf_partitions.proofs.partition.put_sizes.Goals as goal

pub returns-clause-written : goal.returns-clause-written
returns-clause-written c =
    with_bytes-three c.args.out.now c.args.at (c.args.at + 8) (c.args.at + 16) (big_bytes 8 c.args.p.now.header_bytes)
    (big_bytes 8 c.args.p.now.index_bytes) (big_bytes 4 c.args.p.now.index_sid) c.put_u64.new.out c.put_u64-2.new.out c.put_u32.new.out refl refl
    (omega (arith, c.requires)) (omega (arith, c.requires)) c.put_u64.ensures c.put_u64-2.ensures c.put_u32.ensures
