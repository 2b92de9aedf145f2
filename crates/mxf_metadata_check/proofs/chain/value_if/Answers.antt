use Rattle.std.proofs.Common.{sym, ap, ◌∙◌, arith}
use Rattle.mxf_metadata_check.specs.declared.outline.Held.{Held}
use Rattle.mxf_metadata_check.specs.inner.Held.{sets_held}
use Rattle.mxf_metadata_check.proofs.Numbered.{held_below, kind_is, kind_not, nth_held, value_is}
use Rattle.mxf_op1a.specs.Metadata.{SetAt}
use Rattle.mxf_metadata_check.proofs.chain.value_if.Goals as goal

pub returns-then-k-sets : goal.returns-then-k-sets
returns-then-k-sets c = λ bytes places s has nth.
    let lt = held_below bytes c.args.sets.now c.args.k s nth in
    let past = c.if-k-sets.true in
    absurd (omega (arith, lt, past))

pub returns-then-sets-k : goal.returns-then-sets-k
returns-then-sets-k c = λ bytes places s has nth.
    let d : Held = record { at = 0; kind = 0; value_at = 0; value_len = 0 } in
    sym (kind_not places c.args.kind s (λ e. c.if-sets-k.true (ap (λ (s : SetAt). s.set.kind) (nth_held bytes c.args.sets.now c.args.k s d nth) ∙ e)))

pub returns : goal.returns
returns c = λ bytes places s has nth.
    let d : Held = record { at = 0; kind = 0; value_at = 0; value_len = 0 } in
    value_is places (sets_held bytes c.args.sets.now) c.args.values.now c.args.k s has nth
    ∙ sym (kind_is places c.args.kind s (ap (λ (s : SetAt). s.set.kind) (sym (nth_held bytes c.args.sets.now c.args.k s d nth)) ∙ c.if-sets-k.false))
