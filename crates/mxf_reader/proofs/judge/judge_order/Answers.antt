use Rattle.std.proofs.Common.{ℕ, Option, None, ap, ap₂, ◌∙◌}
use Rattle.mxf_op1a.specs.Op1a.{or_next}
use Rattle.mxf_op1a.specs.declared.breaks.Break.{Break}
use Rattle.mxf_reader.proofs.judge.judge_order.Goals as goal

pub returns : goal.returns
returns c =
    let then = λ (clause : ℕ) (place : Option ℕ) (next : Option Break). or_next clause place next in
    λ items h.
    c.or_next.ensures
    ∙ ap₂ (then 3) (c.clause_3.ensures items h)
    (c.or_next-kinds.ensures
    ∙ ap₂ (then 4) (c.clause_4.ensures items h)
    (c.or_next-offsets.ensures
    ∙ ap₂ (then 5) (c.clause_5.ensures items h)
    (c.or_next-elements.ensures
    ∙ ap (λ (o : Option ℕ). then 6 o None) (c.clause_6.ensures items h))))
