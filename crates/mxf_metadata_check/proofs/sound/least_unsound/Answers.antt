use Rattle.std.proofs.Common.{ℕ, [], ◌∷◌, ◌+◌, Option, get_or, drop, sym, ap, ◌∙◌}
use Rattle.mxf_metadata_check.specs.declared.outline.Held.{Held}
use Rattle.mxf_metadata_check.specs.inner.Held.{lesser, set_held, sets_held}
use Rattle.mxf_metadata_check.proofs.Least.{but_end, but_next, least_but, lesser_none, lesser_turned}
use Rattle.mxf_op1a.specs.Metadata.{is_sound}
use Rattle.mxf_metadata_check.proofs.sound.least_unsound.Goals as goal

pub loop-k-preserved : goal.loop-k-preserved
loop-k-preserved c = λ tags all table tells.
    let d : Held = record { at = 0; kind = 0; value_at = 0; value_len = 0 } in
    let k : ℕ = c.loop-k.k in
    let one : Option ℕ = least_but (is_sound tags all) (set_held c.args.bytes.now (get_or c.args.sets.now k d) ∷ []) in
    let rest : Option ℕ = least_but (is_sound tags all) (sets_held c.args.bytes.now (drop (k + 1) c.args.sets.now)) in
    ap (λ (o : Option ℕ). lesser o rest) (c.lesser-bad.ensures ∙ ap (lesser c.loop-k.bad) (c.unsound_place.ensures tags all table tells))
    ∙ lesser_turned c.loop-k.bad one rest
    ∙ ap (lesser c.loop-k.bad) (sym (but_next (is_sound tags all) c.args.bytes.now c.args.sets.now k d c.loop-k-test.true))
    ∙ c.loop-k.invariant tags all table tells

pub returns : goal.returns
returns c = λ tags all table tells.
    sym (lesser_none c.loop-k.bad)
    ∙ ap (lesser c.loop-k.bad) (sym (but_end (is_sound tags all) c.args.bytes.now c.args.sets.now c.loop-k.k c.loop-k-test.false))
    ∙ c.loop-k.invariant tags all table tells
