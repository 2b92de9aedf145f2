use Rattle.std.proofs.Common.{get_or, sym, ap, ◌∙◌}
use Rattle.mxf_partitions.specs.declared.random_index.PackEntry.{PackEntry}
use Rattle.mxf_reader.specs.inner.Names.{is_entry_of}
use Rattle.mxf_reader.proofs.NameLemmas.{names_end, names_next, names_not}
use Rattle.mxf_reader.proofs.RuleLemmas.{nobody}
use Rattle.mxf_reader.proofs.names.names_in_order.Goals as goal

pub parts-preserved : goal.parts-preserved
parts-preserved c =
    c.parts.invariant
    ∙ names_next c.args.value.now c.parts.k c.args.parts.now c.parts-test.true
    (ap (λ (e : PackEntry). is_entry_of e (get_or c.args.parts.now c.parts.k nobody)) (sym c.read_pack_entry.ensures)
    ∙ sym c.is_entry_of.ensures ∙ c.if-not-is_entry_of.false)

pub returns-then-not-is_entry_of : goal.returns-then-not-is_entry_of
returns-then-not-is_entry_of c =
    sym (c.parts.invariant
    ∙ names_not c.args.value.now c.parts.k c.args.parts.now c.parts-test.true
    (ap (λ (e : PackEntry). is_entry_of e (get_or c.args.parts.now c.parts.k nobody)) (sym c.read_pack_entry.ensures)
    ∙ sym c.is_entry_of.ensures ∙ c.if-not-is_entry_of.true))

pub returns : goal.returns
returns c = sym (c.parts.invariant ∙ names_end c.args.value.now c.parts.k c.args.parts.now c.parts-test.false)
