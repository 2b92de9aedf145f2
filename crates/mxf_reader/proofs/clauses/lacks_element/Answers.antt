use Rattle.std.proofs.Common.{◌+◌, not, sym, ap, ◌∙◌, arith}
use Rattle.mxf_reader.proofs.ElementLemmas.{lack_here, lack_next, lack_none}
use Rattle.mxf_reader.proofs.clauses.lacks_element.Goals as goal

pub returns-then-is_none : goal.returns-then-is_none
returns-then-is_none c =
    sym (c.loop-body.invariant
    ∙ lack_here c.loop-body.body-index c.args.bodies.now c.loop-body-test.true (c.is_none.ensures ∙ ap not c.if-is_none.true))

pub loop-body-preserved : goal.loop-body-preserved
loop-body-preserved c =
    c.loop-body.invariant
    ∙ lack_next c.loop-body.body-index (c.loop-body.body-index + 1) c.args.bodies.now c.loop-body-test.true (omega arith)
    (c.is_none.ensures ∙ ap not c.if-is_none.false)

pub returns : goal.returns
returns c = sym (c.loop-body.invariant ∙ lack_none c.loop-body.body-index c.args.bodies.now c.loop-body-test.false)
