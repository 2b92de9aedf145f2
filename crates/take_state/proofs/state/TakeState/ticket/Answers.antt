use Rattle.std.proofs.Common.{◌≡◌, ◌∙◌, Some, sym, subst, arith}
use Rattle.take_core.specs.declared.snapshot.Phase.TheVariants as phase
use Rattle.commit_phases.specs.Phases.{IsOut}
use Rattle.commit_phases.specs.Table.{AllSafe}
use Rattle.commit_phases.specs.laws.Told.{same_told, unchanged}
use Rattle.take_state.specs.Seen.{TakeSeen, acked, phase_of}
use Rattle.take_state.specs.inner.Keeping.{seen_of}
use Rattle.take_state.proofs.BarrierLemmas.{ticketed}
use Rattle.take_state.proofs.CrashLemmas.{called, passes_safe}
use Rattle.take_state.proofs.TakeLemmas.{parts_of}
use Rattle.take_state.proofs.state.TakeState.ticket.Goals as goal

pub invariant_of-self : goal.invariant_of-self
invariant_of-self g c =
    let p = parts_of c.self.inside in
    let grows = subst (λ (v : TakeSeen g.row.D.Denot). phase_of v ≡ phase.Growing) (sym c.self.view_is) c.requires.growing in
    let is_out = subst (λ (v : TakeSeen g.row.D.Denot). IsOut v.commit) (sym c.self.view_is) c.requires.out in
    let made = c.ticket-ticket.ensures in
    ticketed g.L.TakeLayout g.D.TakeDisk g.U.TakeUnits.units p c.ticket-ticket.new.self c.ticket-ticket.result g.met.D.TakeDisk.past c.self.invariant grows is_out
    (made.area ∙ c.area_of.ensures) made.named made.unchanged.0.same made.unchanged.0.lengths

pub returns-clause-crash : goal.returns-clause-crash
returns-clause-crash g c =
    let p = parts_of c.self.inside in
    let k = c.self.invariant in
    let d = c.ticket-ticket.new.self in
    let told = g.D.TakeDisk.told in
    let same = c.ticket-ticket.ensures.unchanged.0.same in
    let safe = same_told (told p.disk) (told d) (AllSafe g.L.TakeLayout p.file.config k.units (acked (seen_of p))) same k.stands.safe in
    called g.L.TakeLayout g.D.TakeDisk g.U.TakeUnits.units g.met.D.TakeDisk.crash (seen_of p) c.args.self.now
    (record (seen_of p) { disk = d; out = Some c.ticket-ticket.result }) k.units c.self.view_is k.stands (omega arith)
    (passes_safe g.L.TakeLayout g.D.TakeDisk g.met.D.TakeDisk.crash p.file.config k.units (acked (seen_of p)) _ p.disk d
    (unchanged (told p.disk) (told d) same) c.ticket-ticket.ensures.time safe)
