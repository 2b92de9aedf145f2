use Rattle.std.proofs.Common.{◌≡◌, ℕ, List, Option, Some, sym, ◌∙◌}
use Rattle.std.proofs.lemmas.Result.{IfOk-weaker}
use Rattle.klv.specs.Items.{Item}
use Rattle.mxf_metadata_reader.specs.declared.fault.SetFault.TheVariants.{Memory}
use Rattle.mxf_metadata_check.specs.Metadata.{AreMetadata, least_wrong}
use Rattle.mxf_metadata_check.proofs.Judged.{none_read, none_wrong, wrong_is}
use Rattle.mxf_metadata_check.proofs.judging.first_wrong.Goals as goal

pub returns-in-Ok-wrong_behind : goal.returns-in-Ok-wrong_behind
returns-in-Ok-wrong_behind c = λ primer items are.
    wrong_is c.items_are_unique.ensures.first c.args.bytes.now c.args.at c.in-Ok.primer c.deref.result.now primer items c.in-Ok-wrong_behind.place
    c.in-Ok.ensures.read c.deref.ensures.value are c.in-Ok-wrong_behind.ensures

pub returns : goal.returns
returns c =
    IfOk-weaker c.without_primer.result
    (λ (place : Option ℕ). (place ≡ Some c.args.at) × (c.in-Err.fault ≡ Memory → ⊥))
    (λ (place : Option ℕ). (primer : Item) (items : List Item) → AreMetadata c.args.bytes.now primer items → least_wrong c.args.at primer items ≡ place)
    (λ place so primer items are.
    none_wrong c.args.bytes.now c.args.at primer items (none_read c.args.bytes.now c.in-Err.fault c.in-Err.ensures.refused so.1) are ∙ sym so.0)
    c.without_primer.ensures
