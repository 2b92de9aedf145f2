use Rattle.std.proofs.Common.{None, ℕ, Option, sym, ap, ◌∙◌}
use Rattle.mxf_op1a.specs.Op1a.{or_next}
use Rattle.mxf_reader.proofs.JudgeLemmas.{broken_here, kept_here}
use Rattle.mxf_reader.proofs.judge.judge_contents.Goals as goal

pub returns-in-Some-clause-broken : goal.returns-in-Some-clause-broken
returns-in-Some-clause-broken g c =
    λ told is seen held. broken_here 7 c.in-Some.at _ _ (sym (c.in_ok-at.ensures.broken told is seen) ∙ c.in-Some.is)

pub returns-in-Some-2-clause-broken : goal.returns-in-Some-2-clause-broken
returns-in-Some-2-clause-broken g c =
    let none = c.in_default.is in
    λ told is seen held.
    kept_here 7 _ _ _ (sym (c.in_ok-at.ensures.broken told is seen) ∙ none)
    (broken_here 8 c.in-Some-2.at _ _ (sym (c.in_ok-at-2.ensures.broken told (c.in_ok-at.ensures.stays.same ∙ is) seen) ∙ c.in-Some-2.is))

pub returns-in-Some-3-clause-broken : goal.returns-in-Some-3-clause-broken
returns-in-Some-3-clause-broken g c =
    λ told is seen held.
    let then = c.in_ok-at.ensures.stays.same ∙ is in
    let last = c.in_ok-at-2.ensures.stays.same ∙ then in
    kept_here 7 _ _ _ (sym (c.in_ok-at.ensures.broken told is seen) ∙ c.in_default.is)
    (kept_here 8 _ _ _ (sym (c.in_ok-at-2.ensures.broken told then seen) ∙ c.in_default-2.is)
    (broken_here 9 c.in-Some-3.at _ _ (sym (c.in_ok-at-3.ensures.broken told last seen held) ∙ c.in-Some-3.is)))

pub returns-clause-broken : goal.returns-clause-broken
returns-clause-broken g c =
    λ told is seen held.
    let then = c.in_ok-at.ensures.stays.same ∙ is in
    let last = c.in_ok-at-2.ensures.stays.same ∙ then in
    kept_here 7 _ _ _ (sym (c.in_ok-at.ensures.broken told is seen) ∙ c.in_default.is)
    (kept_here 8 _ _ _ (sym (c.in_ok-at-2.ensures.broken told then seen) ∙ c.in_default-2.is)
    (kept_here 9 _ _ _ (sym (c.in_ok-at-3.ensures.broken told last seen held) ∙ c.in_default-3.is)
    (ap (λ (o : Option ℕ). or_next 10 o None) (sym (c.clause_10.ensures _ seen.seen)) ∙ sym c.or_next.ensures)))
