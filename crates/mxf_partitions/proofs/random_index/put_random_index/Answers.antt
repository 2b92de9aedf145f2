use Rattle.std.proofs.Common.{◌≡◌, ℕ, List, ◌+◌, ◌*◌, ◌++◌, length, length-append, append_assoc, sym, ap, ◌∙◌, arith}
use Rattle.std.specs.List.{flat_map}
use Rattle.klv.specs.Items.{length_bytes}
use Rattle.rec_bytes.specs.Places.{with_bytes}
use Rattle.mxf_partitions.specs.RandomIndex.{entry_bytes, random_index_head, random_index_end}
use Rattle.mxf_partitions.specs.laws.Lengths.{length-entries, random_index_pack-pieces}
use Rattle.rec_bytes.specs.laws.Places.{with_bytes-three}
use Rattle.mxf_partitions.proofs.random_index.put_random_index.Goals as goal

pub returns-clause-written : goal.returns-clause-written
unfolding length_bytes
returns-clause-written c =
    let entries = c.args.entries.now in
    let old : List ℕ = c.args.out.now in
    let n : ℕ = length entries in
    let head : List ℕ = random_index_head n in
    let middle : List ℕ = flat_map entry_bytes entries in
    let first = c.put_random_index_head-first in
    let behind : first.result ≡ 20 = first.ensures.behind in
    let end : c.put_entries-end.result ≡ 20 + 12 * n = omega (arith, behind, c.put_entries-end.ensures.behind) in
    let both : length (head ++ middle) ≡ 20 + 12 * n = omega (arith, length-append head middle, length-entries entries) in
    let all : c.put_random_index_end.new.out ≡ with_bytes old 0 ((head ++ middle) ++ random_index_end n) =
    with_bytes-three old 0 first.result c.put_entries-end.result head middle (random_index_end n) first.new.out c.put_entries-end.new.out
    c.put_random_index_end.new.out behind (omega (arith, end, both)) (omega (arith, behind, c.requires.room)) (omega (arith, end, c.requires.room))
    first.ensures.written c.put_entries-end.ensures.written c.put_random_index_end.ensures.written in
    all ∙ ap (with_bytes old 0) (append_assoc head middle (random_index_end n) ∙ sym (random_index_pack-pieces entries))
