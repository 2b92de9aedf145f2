use Rattle.std.proofs.Common.{◌≡◌, ℕ, List, ◌++◌, length, length-append, replicate, ◌∙◌, arith, rules}
use Rattle.byteorder.specs.Endian.{big_bytes}
use Rattle.rec_bytes.specs.laws.Places.{with_bytes-more, with_bytes-whole}
use Rattle.mxf_index.proofs.segment.segment_id.Goals as goal

pub returns-clause-joined : goal.returns-clause-joined
returns-clause-joined c =
    let index : List ℕ = c.args.ids.now.index in
    let back : List ℕ = big_bytes 8 c.args.first in
    let zeros : List ℕ = replicate 16 0 in
    let long : length index ≡ 8 = search rules in
    with_bytes-more zeros 0 8 index back c.put_bytes.new.out c.put_u64.new.out c.put_bytes.ensures (omega arith) (omega arith) c.put_u64.ensures
    ∙ with_bytes-whole zeros (index ++ back) (omega (arith, length-append index back, long))
