use Rattle.std.proofs.Common.{ℕ, List, take, length, sym, ap, ◌∙◌, arith}
use Rattle.mxf_partitions.specs.Refusals.{IsPackFront}
use Rattle.mxf_partitions.proofs.ItemLemmas.{has_value}
use Rattle.mxf_partitions.proofs.RefusalLemmas.{front_read, front_accepted}
use Rattle.mxf_partitions.proofs.reading.read_partition.Goals as goal

pub part_of-requires-clause-ordered : goal.part_of-requires-clause-ordered
part_of-requires-clause-ordered c = (has_value c.args.bytes.now c.in-Ok.klv c.in-Ok.ensures.stands).before

pub part_of-requires-clause-within : goal.part_of-requires-clause-within
part_of-requires-clause-within c = (has_value c.args.bytes.now c.in-Ok.klv c.in-Ok.ensures.stands).within

pub read_pack-requires : goal.read_pack-requires
read_pack-requires c =
    let k = c.in-Ok.ensures.stands in
    let v = has_value c.args.bytes.now c.in-Ok.klv k in
    let len = k.value_len in
    omega (arith, len, ap length (c.part_of.ensures ∙ v.taken))

pub returns-in-Ok : goal.returns-in-Ok
returns-in-Ok c =
    let first = c.items_are_unique.ensures.first in
    let k = c.in-Ok.ensures.stands in
    let v = has_value c.args.bytes.now c.in-Ok.klv k in
    let front : IsPackFront k.item c.in-Ok.klv.key c.in-Ok.klv.value_len c.part_of.result.now =
    record { key_is = sym k.key; value_len_is = sym k.value_len; front_is = ap (λ (xs : List ℕ). take 104 xs) (sym (c.part_of.ensures ∙ v.taken)) } in
    let both = front_read first c.args.bytes.now c.in-Ok.klv.key c.in-Ok.klv.value_len c.part_of.result.now k.item c.read_pack.result k.stands front
    c.read_pack.ensures.read c.read_pack.ensures.refused in
    record { accepted = front_accepted first c.args.bytes.now c.read_pack.result both.0 both.1; read = both.0; refused = both.1 }
