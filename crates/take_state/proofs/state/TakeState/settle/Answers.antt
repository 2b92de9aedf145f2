use Rattle.std.proofs.Common.{◌≡◌, None, Some, sym, subst, arith}
use Rattle.take_core.specs.declared.snapshot.Phase.TheVariants as phase
use Rattle.take_state.specs.Seen.{TakeSeen, acked, phase_of}
use Rattle.take_state.specs.inner.Keeping.{seen_of}
use Rattle.take_state.proofs.BarrierLemmas.{settles, settles_safe}
use Rattle.take_state.proofs.CrashLemmas.{called, passes_safe}
use Rattle.take_state.proofs.TakeLemmas.{parts_of}
use Rattle.take_state.proofs.state.TakeState.settle.Goals as goal

pub invariant_of-self : goal.invariant_of-self
invariant_of-self g c =
    let p = parts_of c.self.inside in
    let grows = subst (λ (v : TakeSeen g.row.D.Denot). phase_of v ≡ phase.Growing) (sym c.self.view_is) c.requires.growing in
    let is_out = subst (λ (v : TakeSeen g.row.D.Denot). v.out ≡ Some c.args.done) (sym c.self.view_is) c.requires.out in
    settles g.L.TakeLayout g.D.TakeDisk g.U.TakeUnits.units p c.settle.new.self c.args.done c.next_phase-self-inside.result c.self.invariant grows is_out
    c.requires.named c.next_phase-self-inside.ensures c.settle.ensures.settled c.settle.ensures.lengths

pub returns-clause-crash : goal.returns-clause-crash
returns-clause-crash g c =
    let p = parts_of c.self.inside in
    let k = c.self.invariant in
    let d = c.settle.new.self in
    let safe = settles_safe g.L.TakeLayout g.D.TakeDisk g.U.TakeUnits.units p.file.config k.units (acked (seen_of p)) c.args.done p.disk d k.stands.safe
    c.settle.ensures.settled in
    called g.L.TakeLayout g.D.TakeDisk g.U.TakeUnits.units g.met.D.TakeDisk.crash (seen_of p) c.args.self.now
    (record (seen_of p) { disk = d; commit = c.next_phase-self-inside.result; out = None }) k.units c.self.view_is k.stands (omega arith)
    (passes_safe g.L.TakeLayout g.D.TakeDisk g.met.D.TakeDisk.crash p.file.config k.units (acked (seen_of p)) _ p.disk d
    c.settle.ensures.settled c.settle.ensures.time safe)
