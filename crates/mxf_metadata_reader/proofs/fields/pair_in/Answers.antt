use Rattle.std.proofs.Common.{◌≡◌, ◌+◌, drop}
use Rattle.std.proofs.lemmas.List.{take_rest}
use Rattle.byteorder.specs.Endian.{big_number}
use Rattle.mxf_metadata_reader.proofs.FieldLemmas.{pair_found}
use Rattle.mxf_metadata_reader.proofs.fields.pair_in.Goals as goal

pub returns-then-item-eq8 : goal.returns-then-item-eq8
returns-then-item-eq8 c =
    let first : c.read_u32.result ≡ big_number 4 (drop c.in-Some.item.value_at c.args.value.now) = rw take_rest at c.read_u32.ensures in
    let second : c.read_u32-then-item-eq8.result
    ≡ big_number 4 (drop (c.in-Some.item.value_at + 4) c.args.value.now) = rw take_rest at c.read_u32-then-item-eq8.ensures in
    pair_found c.in-Some.item.value_at c.in-Some.item.value_len c.read_u32.result c.read_u32-then-item-eq8.result c.args.value.now _
    c.in-Some.ensures.first c.if-item-eq8.true c.in-Some.ensures.within first second
