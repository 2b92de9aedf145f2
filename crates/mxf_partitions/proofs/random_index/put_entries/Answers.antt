use Rattle.std.proofs.Common.{◌≡◌, ℕ, List, ◌*◌, length, take, sym, ap, ◌∙◌, arith}
use Rattle.std.proofs.lemmas.List.{length-take-le}
use Rattle.std.specs.List.{flat_map}
use Rattle.rec_bytes.specs.Places.{with_bytes}
use Rattle.mxf_partitions.specs.RandomIndex.{entry_bytes}
use Rattle.mxf_partitions.specs.laws.Lengths.{length-entries}
use Rattle.mxf_partitions.proofs.EntryLemmas.{one_more}
use Rattle.rec_bytes.specs.laws.Places.{with_bytes-more}
use Rattle.mxf_partitions.proofs.random_index.put_entries.Goals as goal

pub entries-preserved : goal.entries-preserved
entries-preserved c =
    let entries = c.args.entries.now in
    let k : ℕ = c.entries.k in
    let old : List ℕ = c.args.out.now in
    let at : ℕ = c.args.at in
    let before : List ℕ = flat_map entry_bytes (take k entries) in
    let long : length before ≡ 12 * k =
    length-entries (take k entries) ∙ ap (λ (n : ℕ). 12 * n) (length-take-le k entries (omega (arith, c.entries-test.true))) in
    let both =
    with_bytes-more old at c.entries.end before _ c.entries.out c.put_pack_entry-end.new.out c.entries.invariant.1
    (omega (arith, long, c.entries.invariant.0)) (omega (arith, c.entries.invariant.0, c.requires, c.entries-test.true)) c.put_pack_entry-end.ensures.written in
    (omega (arith, c.put_pack_entry-end.ensures.behind, c.entries.invariant.0), both ∙ ap (with_bytes old at) (sym (one_more entries k _ c.entries-test.true)))
