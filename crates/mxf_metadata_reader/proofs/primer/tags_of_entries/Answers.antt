use Rattle.std.proofs.Common.{◌≡◌, ◌*◌, drop, arith, ◌∙◌}
use Rattle.std.proofs.lemmas.List.{take_rest}
use Rattle.byteorder.specs.Endian.{big_number}
use Rattle.mxf_metadata_reader.proofs.PrimerLemmas.{table_before, table_next, table_whole}
use Rattle.mxf_metadata_reader.proofs.primer.tags_of_entries.Goals as goal

pub loop-k-init : goal.loop-k-init
loop-k-init c = table_before c.in_ok-listed.listed.items c.args.count c.args.entries.now c.in_ok-listed.ensures

pub loop-k-preserved : goal.loop-k-preserved
loop-k-preserved c =
    let read : c.read_u16-tag.result ≡ big_number 2 (drop (18 * c.loop-k.k) c.args.entries.now) = rw take_rest at c.read_u16-tag.ensures in
    let small = c.read_u16-tag.type_inv in
    let same = c.from.ensures in
    table_next c.loop-k.listed.items c.args.count c.loop-k.k c.from.result c.args.entries.now c.loop-k-test.true (omega arith) (same ∙ read) c.loop-k.invariant

pub returns : goal.returns
returns c = table_whole c.loop-k.listed.items c.args.count c.loop-k.k c.args.entries.now c.loop-k-test.false c.loop-k.invariant
