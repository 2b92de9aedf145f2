use Rattle.std.proofs.Common.{◌+◌, ◌≤◌, length, take, sym, refl, ◌∙◌}
use Rattle.mxf_metadata_reader.specs.declared.outline.SetPlace.{SetPlace}
use Rattle.mxf_metadata_reader.proofs.FormLemmas.{all_at}
use Rattle.mxf_metadata_reader.proofs.FieldLemmas.{kind_here, kind_later, kind_none}
use Rattle.mxf_metadata_reader.proofs.fields.value_of_kind.Goals as goal

pub value_at-requires : goal.value_at-requires
value_at-requires c =
    let d : SetPlace = record { kind = 0; value_at = 0; value_len = 0 } in
    all_at (λ (place : SetPlace). place.value_at + place.value_len ≤ length c.args.bytes.now) c.args.sets.now c.sets.set-index d c.requires c.sets-test.true

pub returns-then-set-kind : goal.returns-then-set-kind
returns-then-set-kind c =
    let d : SetPlace = record { kind = 0; value_at = 0; value_len = 0 } in
    sym (c.sets.invariant
    ∙ kind_here c.args.kind c.args.bytes.now c.value_at.result.now c.args.sets.now c.sets.set-index d c.sets-test.true c.if-set-kind.true c.value_at.ensures)

pub sets-preserved : goal.sets-preserved
sets-preserved c =
    let d : SetPlace = record { kind = 0; value_at = 0; value_len = 0 } in
    c.sets.invariant ∙ kind_later c.args.kind c.args.bytes.now c.args.sets.now c.sets.set-index d c.sets-test.true c.if-set-kind.false

pub returns : goal.returns
returns c = sym (c.sets.invariant ∙ kind_none c.args.kind c.args.bytes.now (take 0 c.args.bytes.now) c.args.sets.now c.sets.set-index c.sets-test.false refl)
