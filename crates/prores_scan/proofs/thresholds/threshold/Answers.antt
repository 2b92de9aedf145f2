use Rattle.std.proofs.Common.{rules}
use Rattle.prores_scan.proofs.ThresholdLemmas.{threshold_is}
use Rattle.prores_scan.proofs.thresholds.threshold.Goals as goal

pub returns : goal.returns
returns c = threshold_is c.args.size c.args.scale c.min.result c.requires.size c.requires.scale.0 (search rules)
