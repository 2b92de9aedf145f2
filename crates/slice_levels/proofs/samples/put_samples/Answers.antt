use Rattle.slice_levels.proofs.SampleLemmas.{inverses_small}
use Rattle.slice_levels.proofs.samples.put_samples.Goals as goal

pub returns-then-greatest_size-clause-range : goal.returns-then-greatest_size-clause-range
returns-then-greatest_size-clause-range c = inverses_small c.args.scan c.args.products.now _ c.short_samples.ensures

pub returns-else-greatest_size-clause-range : goal.returns-else-greatest_size-clause-range
returns-else-greatest_size-clause-range c = inverses_small c.args.scan c.args.products.now _ c.wide_samples.ensures
