use Rattle.std.proofs.Common.{arith}
use Rattle.mxf_reader.proofs.SegmentLemmas.{begins_all, begins_more, begins_other}
use Rattle.mxf_reader.proofs.index.begin_with.Goals as goal

pub returns-then-elements-k-clause-begin : goal.returns-then-elements-k-clause-begin
returns-then-elements-k-clause-begin c =
    let few = c.if-elements-streams.false in
    let low = c.streams-test.true in
    begins_other c.args.elements.now c.args.streams.now c.streams.k (omega arith) low c.if-elements-k.true

pub streams-preserved : goal.streams-preserved
streams-preserved c =
    let few = c.if-elements-streams.false in
    let low = c.streams-test.true in
    begins_more c.args.elements.now c.args.streams.now c.streams.k (omega arith) low c.streams.invariant c.if-elements-k.false

pub returns-clause-begin : goal.returns-clause-begin
returns-clause-begin c = begins_all c.args.elements.now c.args.streams.now c.streams.k c.streams-test.false c.streams.invariant
