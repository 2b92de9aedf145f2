use Rattle.prores_scan.specs.WeightsAndScales.{scale_of}
use Rattle.slice_codec.proofs.search.Bounds.at.Goals as goal

pub returns-else-index-self : goal.returns-else-index-self
returns-else-index-self c = λ y cb cr least. c.none.ensures.least (scale_of c.args.index) y cb cr
