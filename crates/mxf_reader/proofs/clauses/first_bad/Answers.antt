use Rattle.std.proofs.Common.{◌+◌, sym, ◌∙◌, arith}
use Rattle.mxf_reader.proofs.RuleLemmas.{bad_here, bad_next, bad_none}
use Rattle.mxf_reader.proofs.clauses.first_bad.Goals as goal

pub returns-then-not-keeps : goal.returns-then-not-keeps
returns-then-not-keeps c =
    sym (c.loop-p.invariant
    ∙ bad_here c.args.rule c.loop-p.before c.loop-p.p-index c.args.parts.now c.loop-p-test.true (sym c.keeps.ensures ∙ c.if-not-keeps.true))

pub loop-p-preserved : goal.loop-p-preserved
loop-p-preserved c =
    c.loop-p.invariant
    ∙ bad_next c.args.rule c.loop-p.before c.loop-p.p-index (c.loop-p.p-index + 1) c.args.parts.now c.loop-p-test.true (omega arith)
    (sym c.keeps.ensures ∙ c.if-not-keeps.false)

pub returns : goal.returns
returns c = sym (c.loop-p.invariant ∙ bad_none c.args.rule c.loop-p.before c.loop-p.p-index c.args.parts.now c.loop-p-test.false)
