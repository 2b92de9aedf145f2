use Rattle.std.proofs.Common.{◌≡◌, ℕ, List, ◌*◌, length, take, get_or, sym, ap, ◌∙◌, arith}
use Rattle.std.proofs.lemmas.List.{length-take-le}
use Rattle.byteorder.specs.Endian.{big_bytes}
use Rattle.rec_bytes.specs.Places.{with_bytes}
use Rattle.rec_bytes.specs.laws.Places.{with_bytes-more}
use Rattle.frame_syntax.specs.Written.{table_of}
use Rattle.frame_syntax.specs.laws.LengthLaws.{length-table_of}
use Rattle.frame_syntax.proofs.TableBytesLemmas.{entry_more}
use Rattle.frame_syntax.proofs.front.put_table.Goals as goal

pub entries-preserved : goal.entries-preserved
entries-preserved c =
    let sizes = c.args.sizes.now in
    let k : ℕ = c.entries.k in
    let old : List ℕ = c.args.out.now in
    let at : ℕ = c.args.at in
    let before : List ℕ = table_of (take k sizes) in
    let long : length before ≡ 2 * k =
    length-table_of (take k sizes) ∙ ap (λ (n : ℕ). 2 * n) (length-take-le k sizes (omega (arith, c.entries-test.true))) in
    let both =
    with_bytes-more old at c.entries.end before (big_bytes 2 (get_or sizes k 0)) c.entries.out c.put_u16.new.out c.entries.invariant.out
    (omega (arith, long, c.entries.invariant.end)) (omega (arith, c.entries.invariant.end, c.requires, c.entries-test.true)) c.put_u16.ensures in
    record { end = omega (arith, c.entries.invariant.end); out = both ∙ ap (with_bytes old at) (sym (entry_more sizes k c.entries-test.true)) }
