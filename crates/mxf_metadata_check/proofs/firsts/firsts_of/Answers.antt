use Rattle.std.proofs.Common.{ℕ, Option, ap, ◌∙◌, arith}
use Rattle.std.specs.BTreeMap.{get}
use Rattle.std.specs.Option.{option_or}
use Rattle.std.specs.Ordering.{nat_cmp}
use Rattle.local_sets.specs.laws.Numbers.{AreBytes}
use Rattle.mxf_metadata_reader.specs.inner.Own.{number_is}
use Rattle.mxf_metadata_check.specs.declared.outline.Held.{Held}
use Rattle.mxf_metadata_check.specs.inner.Firsts.{some_if}
use Rattle.mxf_metadata_check.proofs.Ids.{tells_all, tells_more}
use Rattle.mxf_metadata_check.proofs.firsts.firsts_of.Goals as goal

pub loop-k-preserved : goal.loop-k-preserved
loop-k-preserved c =
    let d : Held = record { at = 0; kind = 0; value_at = 0; value_len = 0 } in
    let are : AreBytes c.args.bytes.now = λ k. let small = c.type_inv.bytes k in omega arith in
    tells_more c.loop-k.firsts c.keep_first.new.firsts c.args.bytes.now c.held_value-value.result.now c.args.sets.now c.loop-k.k d c.loop-k-test.true are
    c.held_value-value.ensures
    (λ q. c.in_ok-keep_first.ensures q
    ∙ ap (λ (number : Option ℕ). option_or (get nat_cmp c.loop-k.firsts q) (some_if (number_is q number) c.loop-k.k)) c.own_number.ensures)
    c.loop-k.invariant

pub returns : goal.returns
returns c = tells_all c.loop-k.firsts c.args.bytes.now c.args.sets.now c.loop-k.k c.loop-k-test.false c.loop-k.invariant
