use Rattle.std.proofs.Common.{◌+◌, ◌≤◌, length, drop, Option, sym, ap, ◌∙◌}
use Rattle.std.specs.Option.{option_or}
use Rattle.mxf_metadata_reader.specs.Faults.{links_fault}
use Rattle.mxf_metadata_reader.specs.inner.Places.{sets_at}
use Rattle.mxf_metadata_reader.specs.declared.fault.SetFault.{SetFault}
use Rattle.mxf_metadata_reader.specs.declared.outline.SetPlace.{SetPlace}
use Rattle.mxf_metadata_reader.proofs.FormLemmas.{all_at}
use Rattle.mxf_metadata_reader.proofs.NameLemmas.{links_end, links_step}
use Rattle.mxf_metadata_reader.proofs.links.links_fault.Goals as goal

pub value_at-value-requires : goal.value_at-value-requires
value_at-value-requires c =
    let d : SetPlace = record { kind = 0; value_at = 0; value_len = 0 } in
    all_at (λ (place : SetPlace). place.value_at + place.value_len ≤ length c.args.bytes.now) c.args.sets.now c.sets.set-index d c.requires c.sets-test.true

pub returns-in-Some : goal.returns-in-Some
returns-in-Some c = λ all holds.
    let d : SetPlace = record { kind = 0; value_at = 0; value_len = 0 } in
    let rest : Option SetFault = links_fault all (sets_at c.args.bytes.now (drop (c.sets.set-index + 1) c.args.sets.now)) in
    sym (c.sets.invariant all holds
    ∙ links_step all c.args.bytes.now c.value_at-value.result.now c.args.sets.now c.sets.set-index d c.sets-test.true c.value_at-value.ensures
    ∙ ap (λ (o : Option SetFault). option_or o rest) (sym (c.in-Some.ensures all holds)))

pub sets-preserved : goal.sets-preserved
sets-preserved c = λ all holds.
    let d : SetPlace = record { kind = 0; value_at = 0; value_len = 0 } in
    let rest : Option SetFault = links_fault all (sets_at c.args.bytes.now (drop (c.sets.set-index + 1) c.args.sets.now)) in
    c.sets.invariant all holds
    ∙ links_step all c.args.bytes.now c.value_at-value.result.now c.args.sets.now c.sets.set-index d c.sets-test.true c.value_at-value.ensures
    ∙ ap (λ (o : Option SetFault). option_or o rest) (sym (c.in-None.ensures all holds))

pub returns : goal.returns
returns c = λ all holds.
    sym (c.sets.invariant all holds ∙ links_end all c.args.bytes.now c.args.sets.now c.sets.set-index c.sets-test.false)
