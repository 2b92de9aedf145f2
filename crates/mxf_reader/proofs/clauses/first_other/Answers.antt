use Rattle.std.proofs.Common.{◌+◌, sym, ◌∙◌, arith}
use Rattle.mxf_reader.proofs.ElementLemmas.{other_here, other_next, other_none}
use Rattle.mxf_reader.proofs.clauses.first_other.Goals as goal

pub returns-then-is_some : goal.returns-then-is_some
returns-then-is_some c =
    sym (c.loop-body.invariant
    ∙ other_here c.loop-body.body-index c.args.bodies.now c.loop-body-test.true (sym c.is_some.ensures ∙ c.if-is_some.true))

pub loop-body-preserved : goal.loop-body-preserved
loop-body-preserved c =
    c.loop-body.invariant
    ∙ other_next c.loop-body.body-index (c.loop-body.body-index + 1) c.args.bodies.now c.loop-body-test.true (omega arith)
    (sym c.is_some.ensures ∙ c.if-is_some.false)

pub returns : goal.returns
returns c = sym (c.loop-body.invariant ∙ other_none c.loop-body.body-index c.args.bodies.now c.loop-body-test.false)
