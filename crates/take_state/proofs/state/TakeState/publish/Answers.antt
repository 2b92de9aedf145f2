use Rattle.std.proofs.Common.{refl, arith}
use Rattle.take_state.proofs.CrashLemmas.{silent}
use Rattle.take_state.proofs.state.TakeState.publish.Goals as goal

pub returns-in-Some-clause-crash : goal.returns-in-Some-clause-crash
returns-in-Some-clause-crash g c =
    let s = c.args.self.now in
    let take = c.stands.ensures in
    silent g.L.TakeLayout g.D.TakeDisk g.U.TakeUnits.units g.met.D.TakeDisk.crash s s s take.units refl take.stands (omega arith) refl
