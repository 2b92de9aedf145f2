use Rattle.std.proofs.Common.{◌≡◌, ℕ, ◌+◌, List, [], Option, Some, get_or, drop, sym, ap, ◌∙◌, arith}
use Rattle.std.proofs.lemmas.List.{drop_all}
use Rattle.std.specs.List.{flat_map}
use Rattle.mxf_metadata_check.specs.declared.outline.Held.{Held}
use Rattle.mxf_metadata_check.specs.inner.Held.{lesser, set_held, sets_held}
use Rattle.mxf_metadata_check.proofs.Least.{lesser_none, lesser_turned}
use Rattle.mxf_metadata_check.proofs.Numbered.{held_long, held_nth, kinds_step}
use Rattle.mxf_op1a.specs.Metadata.{SetAt, all_of_kind, least, of_kind}
use Rattle.mxf_metadata_check.proofs.chain.least_of_kind.Goals as goal

pub loop-k-preserved : goal.loop-k-preserved
loop-k-preserved c = λ bytes places has.
    let d : Held = record { at = 0; kind = 0; value_at = 0; value_len = 0 } in
    let k : ℕ = c.loop-k.k in
    let all : List SetAt = sets_held bytes c.args.sets.now in
    let s : SetAt = set_held bytes (get_or c.args.sets.now k d) in
    let nth = held_nth bytes c.args.sets.now k d c.loop-k-test.true in
    let rest : Option ℕ = least (flat_map places (all_of_kind c.args.kind (drop (k + 1) all))) in
    ap (λ (o : Option ℕ). lesser o rest) (c.lesser-found.ensures ∙ ap (lesser c.loop-k.found) (c.value_if.ensures bytes places s has nth))
    ∙ lesser_turned c.loop-k.found (least (flat_map places (of_kind c.args.kind (Some s)))) rest
    ∙ ap (lesser c.loop-k.found) (sym (kinds_step places all c.args.kind k s nth))
    ∙ c.loop-k.invariant bytes places has

pub returns : goal.returns
returns c = λ bytes places has.
    let all : List SetAt = sets_held bytes c.args.sets.now in
    let past = c.loop-k-test.false in
    let none : drop c.loop-k.k all ≡ [] = drop_all c.loop-k.k all (omega (arith, held_long bytes c.args.sets.now, past)) in
    sym (lesser_none c.loop-k.found)
    ∙ ap (λ (xs : List SetAt). lesser c.loop-k.found (least (flat_map places (all_of_kind c.args.kind xs)))) (sym none)
    ∙ c.loop-k.invariant bytes places has
