use Rattle.std.proofs.Common.{◌≡◌, ◌∙◌, true, false, rules}
use Rattle.mxf_partitions.specs.inner.Fronts.{holds_entries}
use Rattle.mxf_partitions.proofs.ItemLemmas.{has_value}
use Rattle.mxf_partitions.proofs.IndexLemmas.{index_held, index_missing}
use Rattle.mxf_partitions.proofs.index_reading.index_value.Goals as goal

pub part_of-value-requires-clause-ordered : goal.part_of-value-requires-clause-ordered
part_of-value-requires-clause-ordered c = (has_value c.args.bytes.now c.in-Ok.klv c.in-Ok.ensures.stands).before

pub returns-then-not-holds_entries-clause-none : goal.returns-then-not-holds_entries-clause-none
returns-then-not-holds_entries-clause-none c =
    let k = c.in-Ok.ensures.stands in
    let v = has_value c.args.bytes.now c.in-Ok.klv k in
    let test : holds_entries c.in-Ok.klv.key c.part_of-value.result.now c.in-Ok.klv.end ≡ false = search rules in
    index_missing c.items_are_unique.ensures.first c.args.bytes.now c.in-Ok.klv k c.part_of-value.result.now (c.part_of-value.ensures ∙ v.taken) test

pub returns-clause-some : goal.returns-clause-some
returns-clause-some c =
    let k = c.in-Ok.ensures.stands in
    let v = has_value c.args.bytes.now c.in-Ok.klv k in
    let test : holds_entries c.in-Ok.klv.key c.part_of-value.result.now c.in-Ok.klv.end ≡ true = search rules in
    index_held c.args.bytes.now c.in-Ok.klv k c.part_of-value.result.now (c.part_of-value.ensures ∙ v.taken) test
