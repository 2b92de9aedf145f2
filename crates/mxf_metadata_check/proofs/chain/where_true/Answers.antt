use Rattle.std.proofs.Common.{◌∙◌, arith}
use Rattle.mxf_metadata_check.specs.inner.Chain.{places_if}
use Rattle.mxf_metadata_check.proofs.Numbered.{least_long, longer, map_end, map_more, nth_at}
use Rattle.mxf_op1a.specs.Metadata.{least}
use Rattle.mxf_metadata_check.proofs.chain.where_true.Goals as goal

pub loop-k-preserved : goal.loop-k-preserved
loop-k-preserved c = record {
  long = longer c.loop-k.found.items c.push.new.self.items _ c.loop-k.k c.in_ok-push.ensures.items c.loop-k.invariant.long;
  least = λ all test places tells has.
      let long = least_long places all c.args.values.now has in
      let lt = c.loop-k-test.true in
      let at = nth_at all c.loop-k.k (omega (arith, long, lt)) in
      c.in_ok-push.ensures.items
      ∙ map_more (λ s. least (places_if test places s)) all c.loop-k.k at.0 c.loop-k.found.items _ at.1
      (c.loop-k.invariant.least all test places tells has) (c.value_where.ensures all test places at.0 tells has at.1);
}

pub returns-clause-least : goal.returns-clause-least
returns-clause-least c = λ all test places tells has.
    let long = least_long places all c.args.values.now has in
    let past = c.loop-k-test.false in
    map_end (λ s. least (places_if test places s)) all c.loop-k.k c.loop-k.found.items (omega (arith, long, past))
    (c.loop-k.invariant.least all test places tells has)
