use Rattle.std.proofs.Common.{get_or, refl, ap, ◌∙◌, arith}
use Rattle.std.proofs.lemmas.List.{drop_all}
use Rattle.mxf_metadata_check.specs.declared.outline.Held.{Held}
use Rattle.mxf_metadata_check.specs.inner.Held.{set_held, sets_held}
use Rattle.mxf_metadata_check.proofs.Numbered.{held_long, held_nth, kind_found, kind_passed}
use Rattle.mxf_op1a.specs.Metadata.{SetAt, all_of_kind}
use Rattle.mxf_metadata_check.proofs.flags.next_of_kind.Goals as goal

pub loop-k-init : goal.loop-k-init
loop-k-init c = λ bytes. refl

pub returns-then-sets-k-clause-next : goal.returns-then-sets-k-clause-next
returns-then-sets-k-clause-next c = λ bytes.
    let d : Held = record { at = 0; kind = 0; value_at = 0; value_len = 0 } in
    let s : SetAt = set_held bytes (get_or c.args.sets.now c.loop-k.k d) in
    let nth = held_nth bytes c.args.sets.now c.loop-k.k d c.loop-k-test.true in
    (s, nth, c.loop-k.invariant bytes ∙ kind_found (sets_held bytes c.args.sets.now) c.args.kind c.loop-k.k s nth c.if-sets-k.true)

pub loop-k-preserved : goal.loop-k-preserved
loop-k-preserved c = λ bytes.
    let d : Held = record { at = 0; kind = 0; value_at = 0; value_len = 0 } in
    let s : SetAt = set_held bytes (get_or c.args.sets.now c.loop-k.k d) in
    let nth = held_nth bytes c.args.sets.now c.loop-k.k d c.loop-k-test.true in
    c.loop-k.invariant bytes ∙ kind_passed (sets_held bytes c.args.sets.now) c.args.kind c.loop-k.k s nth c.if-sets-k.false

pub returns-clause-next : goal.returns-clause-next
returns-clause-next c = λ bytes.
    let past = c.loop-k-test.false in
    c.loop-k.invariant bytes
    ∙ ap (all_of_kind c.args.kind) (drop_all c.loop-k.k (sets_held bytes c.args.sets.now) (omega (arith, held_long bytes c.args.sets.now, past)))
