use Rattle.std.proofs.Common.{sym, ap, ◌∙◌, arith}
use Rattle.mxf_metadata_check.specs.declared.outline.Held.{Held}
use Rattle.mxf_metadata_check.proofs.Numbered.{count_is, count_not, held_below, nth_held}
use Rattle.mxf_op1a.specs.Metadata.{SetAt}
use Rattle.mxf_metadata_check.proofs.flags.count_if.Goals as goal

pub returns-then-k-sets-clause-count : goal.returns-then-k-sets-clause-count
returns-then-k-sets-clause-count c = λ bytes s nth.
    let lt = held_below bytes c.args.sets.now c.args.k s nth in
    let past = c.if-k-sets.true in
    absurd (omega (arith, lt, past))

pub returns-then-sets-k-clause-count : goal.returns-then-sets-k-clause-count
returns-then-sets-k-clause-count c = λ bytes s nth.
    let d : Held = record { at = 0; kind = 0; value_at = 0; value_len = 0 } in
    sym (count_not c.args.kind s (λ e. c.if-sets-k.true (ap (λ (s : SetAt). s.set.kind) (nth_held bytes c.args.sets.now c.args.k s d nth) ∙ e)))

pub returns-clause-count : goal.returns-clause-count
returns-clause-count c = λ bytes s nth.
    let d : Held = record { at = 0; kind = 0; value_at = 0; value_len = 0 } in
    sym (count_is c.args.kind s (ap (λ (s : SetAt). s.set.kind) (sym (nth_held bytes c.args.sets.now c.args.k s d nth)) ∙ c.if-sets-k.false))
