use Rattle.std.proofs.Common.{sym, ◌∙◌}
use Rattle.std.proofs.lemmas.Result.{IfOk-weaker}
use Rattle.std.proofs.lemmas.Bool.{eqb-true}
use Rattle.essence_walk.proofs.EndLemmas.{both_ok, ends_open, ends_closed, long_closed, tail_stands}
use Rattle.essence_walk.proofs.ends.has_end.Goals as goal

pub returns-then-mark-clause-same : goal.returns-then-mark-clause-same
returns-then-mark-clause-same g c =
    let cfg = c.args.file.now.config in
    both_ok c.has_tail.result _ _ _
    (λ same long there yes told is units rest lie begins.
    ends_closed g.L.TakeLayout cfg c.args.mark told.essence.reads units (g.met.L.TakeLayout.closes cfg) c.if-mark.true rest begins
    (long yes units lie) (there yes told is units lie))
    c.has_tail.ensures.long c.has_tail.ensures.same

pub returns-then-mark-clause-other : goal.returns-then-mark-clause-other
returns-then-mark-clause-other g c =
    let cfg = c.args.file.now.config in
    let closes = g.met.L.TakeLayout.closes cfg in
    IfOk-weaker c.has_tail.result _ _
    (λ same other no told is units rest lie begins ends.
    other no told is units lie (long_closed g.L.TakeLayout cfg c.args.mark told.essence.reads units closes c.if-mark.true ends)
    (tail_stands g.L.TakeLayout cfg c.args.mark told.essence.reads units closes c.if-mark.true ends))
    c.has_tail.ensures.other

pub returns-else-mark-clause-same : goal.returns-else-mark-clause-same
returns-else-mark-clause-same g c = λ same told is units rest lie begins.
    ends_open g.L.TakeLayout c.args.file.now.config c.args.mark told.essence.reads units c.if-mark.false rest begins
    (sym (eqb-true c.len.result c.args.mark.length same) ∙ c.len.ensures.ends units lie)
