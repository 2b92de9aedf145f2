use Rattle.std.proofs.Common.{refl}
use Rattle.mxf_metadata_reader.proofs.OutlineLemmas.{item_within}
use Rattle.mxf_metadata_reader.proofs.PrimerLemmas.{primer_is, primer_not}
use Rattle.std.proofs.Common.{sym, ◌∙◌, arith}
use Rattle.mxf_metadata_reader.proofs.primer.read_primer.Goals as goal

pub value_of-value-requires : goal.value_of-value-requires
value_of-value-requires c = (item_within c.args.bytes.now 0 c.in-Ok.klv c.in-Ok.ensures.stands (omega arith)).value

pub returns-then-not-is_primer-clause-refused : goal.returns-then-not-is_primer-clause-refused
returns-then-not-is_primer-clause-refused c =
    primer_not c.items_are_unique.ensures.first c.args.bytes.now _ c.in-Ok.klv c.in-Ok.ensures.stands c.value_of-value.ensures
    (sym c.is_primer.ensures ∙ c.if-not-is_primer.true)

pub returns-in-Ok-tags_of_value-clause-read : goal.returns-in-Ok-tags_of_value-clause-read
returns-in-Ok-tags_of_value-clause-read c =
    primer_is c.args.bytes.now _ c.in-Ok.klv _ c.in-Ok.ensures.stands c.value_of-value.ensures
    (sym c.is_primer.ensures ∙ c.if-not-is_primer.false) c.in-Ok-tags_of_value.ensures refl
