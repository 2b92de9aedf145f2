use Rattle.std.proofs.Common.{◌||◌, ◌+◌, ◌≤◌, ℕ, Option, length, ap, ◌∙◌, arith}
use Rattle.std.specs.BTreeSet.{contains}
use Rattle.std.specs.Ordering.{nat_cmp}
use Rattle.local_sets.specs.laws.Numbers.{AreBytes}
use Rattle.mxf_metadata_reader.specs.inner.Own.{number_is}
use Rattle.mxf_metadata_reader.specs.declared.outline.SetPlace.{SetPlace}
use Rattle.mxf_metadata_reader.proofs.FormLemmas.{all_at}
use Rattle.mxf_metadata_reader.proofs.LinkLemmas.{holds_all, holds_more}
use Rattle.mxf_metadata_reader.proofs.links.ids_of.Goals as goal

pub value_at-value-requires : goal.value_at-value-requires
value_at-value-requires c =
    let d : SetPlace = record { kind = 0; value_at = 0; value_len = 0 } in
    all_at (λ (place : SetPlace). place.value_at + place.value_len ≤ length c.args.bytes.now) c.args.sets.now c.sets.set-index d c.requires c.sets-test.true

pub sets-preserved : goal.sets-preserved
sets-preserved c =
    let d : SetPlace = record { kind = 0; value_at = 0; value_len = 0 } in
    let are : AreBytes c.args.bytes.now = λ k. let small = c.type_inv.bytes k in omega arith in
    holds_more c.sets.ids c.keep_number.new.ids c.args.bytes.now c.value_at-value.result.now c.args.sets.now c.sets.set-index d c.sets-test.true are
    c.value_at-value.ensures
    (λ q. c.in_ok-keep_number.ensures q ∙ ap (λ (number : Option ℕ). number_is q number || contains nat_cmp c.sets.ids q) c.own_number.ensures)
    c.sets.invariant

pub returns : goal.returns
returns c = holds_all c.sets.ids c.args.bytes.now c.args.sets.now c.sets.set-index c.sets-test.false c.sets.invariant
