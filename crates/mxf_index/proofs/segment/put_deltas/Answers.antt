use Rattle.std.proofs.Common.{ℕ, List, ◌+◌, ◌++◌, arith}
use Rattle.byteorder.specs.Endian.{big_bytes}
use Rattle.local_sets.specs.declared.value.TheConstants.{BATCH_HEAD_LEN}
use Rattle.mxf_index.specs.declared.tags.TheConstants.{DELTA_ENTRIES, DELTA_SIZE}
use Rattle.rec_bytes.specs.laws.Places.{with_bytes-three}
use Rattle.mxf_index.proofs.segment.put_deltas.Goals as goal

pub returns-clause-written : goal.returns-clause-written
returns-clause-written c =
    let at : ℕ = c.args.at in
    let start = c.put_array_head-entry_at in
    let room = c.requires.room in
    let head : List ℕ = big_bytes 2 DELTA_ENTRIES ++ big_bytes 2 (BATCH_HEAD_LEN + DELTA_SIZE) ++ big_bytes 4 1 ++ big_bytes 4 DELTA_SIZE in
    with_bytes-three c.args.out.now at start.result (start.result + 4) head (big_bytes 4 0) (big_bytes 2 0) _ _ c.put_u16.new.out start.ensures.behind (omega (arith, start.ensures.behind)) (omega (arith, start.ensures.behind, room)) (omega (arith, start.ensures.behind, room)) start.ensures.written c.put_u32.ensures c.put_u16.ensures
