use Rattle.std.proofs.Common.{◌≡◌, ℕ, List, ◌++◌, length, replicate, arith, ◌∙◌, length-append}
use Rattle.byteorder.specs.Endian.{big_bytes}
use Rattle.rec_bytes.specs.laws.Places.{with_bytes-more, with_bytes-whole}
use Rattle.mxf_names.proofs.ids.set_id.Goals as goal

pub returns : goal.returns
returns c =
    let front : List ℕ = c.args.ids.now.sets in
    let back : List ℕ = big_bytes 8 c.args.number in
    let zeros : List ℕ = replicate 16 0 in
    let long : length front ≡ 8 = c.show_sizes.ensures.sets in
    with_bytes-more zeros 0 8 front back c.put_bytes.new.out c.put_u64.new.out c.put_bytes.ensures (omega arith) (omega arith) c.put_u64.ensures
    ∙ with_bytes-whole zeros (front ++ back) (omega (arith, length-append front back, long))
