use Rattle.std.proofs.Common.{◌≡◌, ◌<◌, ℕ, false, sym, ap, subst}
use Rattle.take_core.specs.declared.commit_phase.CommitPhase.TheVariants.{Idle}
use Rattle.take_core.specs.declared.snapshot.Phase.TheVariants as phase
use Rattle.take_state.specs.Seen.{TakeSeen, acked, phase_of, published}
use Rattle.take_state.proofs.CommitLemmas.{begun}
use Rattle.take_state.proofs.HistoryLemmas.{latest-published}
use Rattle.take_state.proofs.TakeLemmas.{parts_of}
use Rattle.take_state.proofs.state.TakeState.begin_commit.Goals as goal

pub invariant_of-self : goal.invariant_of-self
invariant_of-self g c =
    let p = parts_of c.self.inside in
    let k = c.self.invariant in
    let grows = subst (λ (v : TakeSeen g.row.D.Denot). phase_of v ≡ phase.Growing) (sym c.self.view_is) c.requires.growing in
    let idle = subst (λ (v : TakeSeen g.row.D.Denot). v.commit ≡ Idle) (sym c.self.view_is) c.requires.idle in
    let behind = subst (λ (v : TakeSeen g.row.D.Denot). acked v < published v) (sym c.self.view_is) c.requires.behind in
    begun g.L.TakeLayout g.D.TakeDisk g.U.TakeUnits.units p _ k grows idle behind c.len.result (c.len.ensures.ends k.units k.lie)
    (ap (λ (n : ℕ). record { count = n; length = c.len.result; closed = false }) (latest-published p.history.entries c.latest.result c.latest.ensures))
