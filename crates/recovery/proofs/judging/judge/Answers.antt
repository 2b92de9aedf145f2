use Rattle.take_disk.specs.laws.TimeLaws.{elapsed_more}
use Rattle.recovery.proofs.judging.judge.Goals as goal

pub returns-in-Ok-clause-time : goal.returns-in-Ok-clause-time
returns-in-Ok-clause-time g c = elapsed_more _ _ _ _ _ _ _ _ _ c.in_ok-commits.ensures.time c.in-Ok.ensures.time
