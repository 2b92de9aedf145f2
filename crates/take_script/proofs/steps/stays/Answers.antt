use Rattle.take_script.proofs.StepLemmas.{nothing_crashes}
use Rattle.take_script.proofs.steps.stays.Goals as goal

pub returns-clause-crash : goal.returns-clause-crash
returns-clause-crash g c = nothing_crashes g.L.TakeLayout g.D.TakeDisk g.met.D.TakeDisk.crash (g.U.TakeUnits.units c.args.take.now.config) c.args.take.now c.stands.ensures
