use Rattle.std.proofs.Common.{◌≡◌, ℕ, List, [], ◌++◌, append-nil, arith, length-append}
use Rattle.byteorder.specs.Endian.{big_bytes}
use Rattle.rec_bytes.specs.Places.{with_bytes}
use Rattle.rec_bytes.specs.laws.Places.{with_bytes-more}
use Rattle.local_sets.proofs.value.put_batch_of_two.Goals as goal

pub returns-clause-written : goal.returns-clause-written
returns-clause-written c =
    let old : List ℕ = c.args.out.now in
    let head : List ℕ = big_bytes 4 2 ++ big_bytes 4 16 in
    let first : List ℕ = c.args.first.now in
    let room = c.requires in
    let items = c.put_batch_head-items.ensures.end in
    let sizes = length-append first (c.args.second.now ++ []) in
    let front : c.put_id-next.new.out ≡ with_bytes old c.args.at (head ++ first) =
    with_bytes-more old c.args.at c.put_batch_head-items.result head first c.put_batch_head-items.new.out c.put_id-next.new.out c.put_batch_head-items.ensures.written items (omega (arith, items, sizes)) c.put_id-next.ensures.written in
    rw (append-nil c.args.second.now) (with_bytes-more old c.args.at c.put_id-next.result (head ++ first) c.args.second.now c.put_id-next.new.out c.put_id.new.out front (omega (arith, c.put_id-next.ensures.end, items)) (omega (arith, c.put_id-next.ensures.end, items, sizes)) c.put_id.ensures.written)
