use Rattle.std.proofs.Common.{subst}
use Rattle.take_state.specs.Seen.{TakeSeen}
use Rattle.take_state.specs.Stands.{IsTaken}
use Rattle.take_state.proofs.state.TakeState.stands.Goals as goal

pub returns : goal.returns
returns g c =
    let k = c.self.invariant in
    subst (λ (v : TakeSeen g.row.D.Denot). IsTaken g.L.TakeLayout g.D.TakeDisk (g.U.TakeUnits.units v.config) v) c.self.view_is
    (record { units = k.units; stands = k.stands; grows = k.grows; ended = k.ended })
