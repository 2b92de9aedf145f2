use Rattle.std.proofs.Common.{arith}
use Rattle.raw_feed.proofs.SampleLemmas.{spelled_is}
use Rattle.raw_feed.proofs.samples.put_samples.Goals as goal

pub returns-clause-spelled : goal.returns-clause-spelled
returns-clause-spelled c =
    spelled_is c.loop-k.samples c.args.bytes.now c.loop-k.invariant.long (λ i. omega (arith, c.type_inv.bytes i))
    (λ k less. c.loop-k.invariant.read k (let l = c.loop-k.auto.samples in omega (arith, c.loop-k-test.false)))
