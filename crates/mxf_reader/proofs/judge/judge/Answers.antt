use Rattle.std.proofs.Common.{◌≡◌, None, ◌∙◌}
use Rattle.std.proofs.lemmas.Result.{IfOk-weaker}
use Rattle.mxf_op1a.specs.Contents.{placed_from}
use Rattle.mxf_reader.specs.inner.Judged.{structure_broken}
use Rattle.mxf_reader.proofs.JudgeLemmas.{held, judged_behind, judged_first}
use Rattle.mxf_reader.proofs.judge.judge.Goals as goal

pub returns-in-Some-clause-broken : goal.returns-in-Some-clause-broken
returns-in-Some-clause-broken g c =
    λ told is seen. judged_first told.essence.reads c.args.file.now seen c.in-Some.broken (c.in_ok-broken.ensures.broken told is seen ∙ c.in-Some.is)

pub returns-in-None-clause-broken : goal.returns-in-None-clause-broken
returns-in-None-clause-broken g c =
    let file = c.args.file.now in
    IfOk-weaker c.judge_contents.result _ _
    (λ broken behind told is seen.
    let kept : structure_broken file.len file.stop (placed_from 0 seen.outline.items) ≡ None = c.in_ok-broken.ensures.broken told is seen ∙ c.in-None.is in
    judged_behind told.essence.reads file seen broken kept
    (behind told (c.in_ok-broken.ensures.stays.same ∙ is) seen (held file.len file.stop (placed_from 0 seen.outline.items) kept)))
    c.judge_contents.ensures.broken
