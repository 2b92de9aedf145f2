use Rattle.std.proofs.Common.{◌≡◌, ℕ, List, ◌*◌, length, take, sym, ap, ◌∙◌, arith}
use Rattle.std.proofs.lemmas.List.{length-take-le}
use Rattle.std.specs.List.{flat_map}
use Rattle.rec_bytes.specs.Places.{with_bytes}
use Rattle.mxf_index.specs.Segments.{frame_bytes}
use Rattle.mxf_index.specs.laws.Lengths.{length-entries}
use Rattle.rec_bytes.specs.laws.Places.{with_bytes-more}
use Rattle.mxf_index.proofs.EntryLemmas.{one_more}
use Rattle.mxf_index.proofs.segment.put_entries.Goals as goal

pub entries-preserved : goal.entries-preserved
entries-preserved c =
    let streams = c.args.streams.now in
    let k : ℕ = c.entries.k in
    let old : List ℕ = c.args.out.now in
    let at : ℕ = c.args.at in
    let before : List ℕ = flat_map frame_bytes (take k streams) in
    let long : length before ≡ 11 * k = length-entries (take k streams) ∙ ap (λ (n : ℕ). 11 * n) (length-take-le k streams (omega (arith, c.entries-test.true))) in
    let both = with_bytes-more old at c.entries.end before _ c.entries.out c.put_entry-end.new.out c.entries.invariant.1 (omega (arith, long, c.entries.invariant.0)) (omega (arith, c.entries.invariant.0, c.requires.room, c.entries-test.true)) c.put_entry-end.ensures.written in
    (omega (arith, c.put_entry-end.ensures.behind, c.entries.invariant.0), both ∙ ap (with_bytes old at) (sym (one_more streams k c.entries-test.true)))
