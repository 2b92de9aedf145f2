use Rattle.std.proofs.Common.{ℕ, ◌+◌, refl, arith}
use Rattle.byteorder.specs.Endian.{big_bytes}
use Rattle.mxf_index.specs.declared.tags.TheConstants.{RANDOM_ACCESS}
use Rattle.rec_bytes.specs.laws.Places.{with_bytes-three}
use Rattle.mxf_index.proofs.segment.put_entry.Goals as goal

pub returns-clause-written : goal.returns-clause-written
returns-clause-written c =
    let at : ℕ = c.args.at in
    with_bytes-three c.args.out.now at (at + 2) (at + 3) (big_bytes 2 0) (big_bytes 1 RANDOM_ACCESS) (big_bytes 8 c.args.stream) _ _ c.put_u64.new.out refl refl (omega (arith, c.requires.room)) (omega (arith, c.requires.room)) c.put_u16.ensures c.put_u8.ensures c.put_u64.ensures
