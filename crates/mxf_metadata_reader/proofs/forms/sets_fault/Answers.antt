use Rattle.std.proofs.Common.{◌+◌, ◌≤◌, length, drop, get_or, sym, ap, ◌∙◌}
use Rattle.std.specs.Option.{option_or}
use Rattle.mxf_metadata_reader.specs.Faults.{sets_fault}
use Rattle.mxf_metadata_reader.specs.inner.Places.{sets_at}
use Rattle.mxf_metadata_reader.specs.declared.fault.SetFault.{SetFault}
use Rattle.mxf_metadata_reader.specs.declared.outline.SetPlace.{SetPlace}
use Rattle.mxf_metadata_reader.proofs.FormLemmas.{all_at, set_value_is, sets_end, sets_step}
use Rattle.std.proofs.Common.{Option}
use Rattle.mxf_metadata_reader.proofs.forms.sets_fault.Goals as goal

pub value_at-value-requires : goal.value_at-value-requires
value_at-value-requires c =
    let d : SetPlace = record { kind = 0; value_at = 0; value_len = 0 } in
    all_at (λ (place : SetPlace). place.value_at + place.value_len ≤ length c.args.bytes.now)
    c.args.sets.now c.sets.set-index d c.requires.within c.sets-test.true

pub returns-in-Some : goal.returns-in-Some
returns-in-Some c = λ tags table.
    let d : SetPlace = record { kind = 0; value_at = 0; value_len = 0 } in
    let place : SetPlace = get_or c.args.sets.now c.sets.set-index d in
    let rest : Option SetFault = sets_fault tags (sets_at c.args.bytes.now (drop (c.sets.set-index + 1) c.args.sets.now)) in
    sym (c.sets.invariant tags table ∙ sets_step tags c.args.bytes.now c.args.sets.now c.sets.set-index d c.sets-test.true
    ∙ ap (λ (o : Option SetFault). option_or o rest)
    (set_value_is tags c.args.bytes.now c.value_at-value.result.now place c.value_at-value.ensures ∙ sym (c.in-Some.ensures tags table)))

pub sets-preserved : goal.sets-preserved
sets-preserved c = λ tags table.
    let d : SetPlace = record { kind = 0; value_at = 0; value_len = 0 } in
    let place : SetPlace = get_or c.args.sets.now c.sets.set-index d in
    let rest : Option SetFault = sets_fault tags (sets_at c.args.bytes.now (drop (c.sets.set-index + 1) c.args.sets.now)) in
    c.sets.invariant tags table ∙ sets_step tags c.args.bytes.now c.args.sets.now c.sets.set-index d c.sets-test.true
    ∙ ap (λ (o : Option SetFault). option_or o rest)
    (set_value_is tags c.args.bytes.now c.value_at-value.result.now place c.value_at-value.ensures ∙ sym (c.in-None.ensures tags table))

pub returns : goal.returns
returns c = λ tags table.
    sym (c.sets.invariant tags table ∙ sets_end tags c.args.bytes.now c.args.sets.now c.sets.set-index c.sets-test.false)
