use Rattle.rec_bytes.specs.Views.{view}
use Rattle.rec_bytes.proofs.RangeLemmas.{in_range}
use Rattle.rec_bytes.proofs.config.Config.ranges.Goals as goal

pub returns : goal.returns
returns c = in_range (view c.args.self.now) c.args.self.now.in_range c.sizes.ensures.start c.sizes.ensures.take_id c.sizes.ensures.encoder
