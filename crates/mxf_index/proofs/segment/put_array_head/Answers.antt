use Rattle.std.proofs.Common.{ℕ, List, ◌+◌, ◌*◌, ◌++◌, refl, arith}
use Rattle.byteorder.specs.Endian.{big_bytes}
use Rattle.rec_bytes.specs.laws.Places.{with_bytes-more, with_bytes-three}
use Rattle.local_sets.specs.declared.value.TheConstants.{BATCH_HEAD_LEN}
use Rattle.mxf_index.proofs.segment.put_array_head.Goals as goal

pub returns-clause-written : goal.returns-clause-written
returns-clause-written c =
    let a = c.args in
    let old : List ℕ = a.out.now in
    let len : List ℕ = big_bytes 2 (BATCH_HEAD_LEN + a.size * a.count) in
    let room = c.requires.room in
    let to_8 = with_bytes-three old a.at (a.at + 2) (a.at + 4) (big_bytes 2 a.tag) len (big_bytes 4 a.count) _ _ c.put_u32.new.out refl refl (omega (arith, room)) (omega (arith, room)) c.put_u16.ensures c.put_u16-2.ensures c.put_u32.ensures in
    with_bytes-more old a.at (a.at + 4 + 4) (big_bytes 2 a.tag ++ len ++ big_bytes 4 a.count) (big_bytes 4 a.size) c.put_u32.new.out c.put_u32-2.new.out to_8 (omega arith) (omega (arith, room)) c.put_u32-2.ensures
