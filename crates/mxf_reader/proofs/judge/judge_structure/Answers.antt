use Rattle.std.proofs.Common.{sym, ◌∙◌}
use Rattle.mxf_reader.proofs.JudgeLemmas.{broken_here, kept_here}
use Rattle.mxf_reader.proofs.judge.judge_structure.Goals as goal

pub returns-in-Some-clause-broken : goal.returns-in-Some-clause-broken
returns-in-Some-clause-broken g c =
    λ told is seen. broken_here 1 c.in-Some.at _ _ (sym (c.clause_1.ensures _ seen.seen) ∙ c.in-Some.is)

pub returns-in-Some-2-clause-broken : goal.returns-in-Some-2-clause-broken
returns-in-Some-2-clause-broken g c =
    λ told is seen.
    kept_here 1 _ _ _ (sym (c.clause_1.ensures _ seen.seen) ∙ c.in_default.is)
    (broken_here 2 c.in-Some-2.at _ _ (sym (c.in_ok-at.ensures.broken told is seen) ∙ c.in-Some-2.is))

pub returns-in-None-clause-broken : goal.returns-in-None-clause-broken
returns-in-None-clause-broken g c =
    λ told is seen.
    kept_here 1 _ _ _ (sym (c.clause_1.ensures _ seen.seen) ∙ c.in_default.is)
    (kept_here 2 _ _ _ (sym (c.in_ok-at.ensures.broken told is seen) ∙ c.in-None.is)
    (sym (c.judge_order.ensures _ seen.seen)))
