use Rattle.std.proofs.Common.{ℕ, List, length, arith, ap, ◌∙◌}
use Rattle.rec_bytes.specs.Places.{with_bytes}
use Rattle.rec_bytes.specs.laws.Places.{with_bytes-more}
use Rattle.klv.specs.Items.{klv_head}
use Rattle.klv.specs.laws.Lengths.{length-klv_head}
use Rattle.local_sets.specs.Sets.{items_bytes, local_set}
use Rattle.local_sets.proofs.set.put_set.Goals as goal

pub returns-clause-written : goal.returns-clause-written
unfolding local_set
returns-clause-written c =
    let old : List ℕ = c.args.out.now in
    let value : List ℕ = items_bytes c.args.items.now in
    let head : List ℕ = klv_head c.args.key.now 3 (length value) in
    let start = c.put_klv_head_at-start in
    let room = c.requires.room in
    let long = length-klv_head c.args.key.now 3 (length value) c.told-key in
    let first = start.ensures.written ∙ ap (λ (n : ℕ). with_bytes old c.args.at (klv_head c.args.key.now 3 n)) c.items_len-len.ensures in
    with_bytes-more old c.args.at start.result head value start.new.out c.put_items.new.out first (omega (arith, start.ensures.behind, long)) (omega (arith, start.ensures.behind)) c.put_items.ensures.written
