use Rattle.prores_scan.proofs.ThresholdLemmas.{reached_is}
use Rattle.prores_scan.proofs.thresholds.reached.Goals as goal

pub returns : goal.returns
returns c = reached_is c.args.half_steps.now c.args.at c.args.threshold c.requires
