use Rattle.std.proofs.Common.{◌+◌, true, false, sym, ◌∙◌, arith}
use Rattle.mxf_reader.proofs.OrderLemmas.{behind_here, behind_last, behind_next}
use Rattle.mxf_reader.proofs.kinds.bad_behind.Goals as goal

pub loop-p-preserved : goal.loop-p-preserved
loop-p-preserved c =
    c.loop-p.invariant
    ∙ behind_next c.loop-p.last c.args.rest.now c.loop-p.p-index (c.loop-p.p-index + 1) c.loop-p-test.true (omega arith)
    (sym c.is_body.ensures ∙ c.if-not-is_body.false)

pub returns-then-not-is_body : goal.returns-then-not-is_body
returns-then-not-is_body c =
    sym (c.loop-p.invariant
    ∙ behind_here c.loop-p.last c.args.rest.now c.loop-p.p-index c.loop-p-test.true (sym c.is_body.ensures ∙ c.if-not-is_body.true))

pub returns-then-is_last_kept : goal.returns-then-is_last_kept
returns-then-is_last_kept c =
    sym (c.loop-p.invariant
    ∙ behind_last c.loop-p.last c.args.rest.now c.loop-p.p-index true c.loop-p-test.false (sym c.is_last_kept.ensures ∙ c.if-is_last_kept.true))

pub returns-else-is_last_kept : goal.returns-else-is_last_kept
returns-else-is_last_kept c =
    sym (c.loop-p.invariant
    ∙ behind_last c.loop-p.last c.args.rest.now c.loop-p.p-index false c.loop-p-test.false (sym c.is_last_kept.ensures ∙ c.if-is_last_kept.false))
