use Rattle.std.proofs.Common.{◌≡◌, ◌∷◌, ◌++◌, [], true, None, refl, sym, ap, subst, arith}
use Rattle.take_core.specs.History.{published_in}
use Rattle.take_core.specs.Recorded.{Recorded}
use Rattle.take_core.specs.declared.commit_phase.CommitPhase.TheVariants.{Idle, Opened}
use Rattle.take_core.specs.declared.entry.Entry.TheVariants as entry
use Rattle.take_core.specs.declared.mark.Mark.{Mark}
use Rattle.take_core.specs.declared.snapshot.Phase.TheVariants as phase
use Rattle.take_state.specs.Seen.{TakeSeen, phase_of}
use Rattle.take_state.specs.inner.Keeping.{seen_of}
use Rattle.take_state.proofs.CommitLemmas.{told_whole}
use Rattle.take_state.proofs.CrashLemmas.{silent}
use Rattle.take_state.proofs.HistoryLemmas.{published-push}
use Rattle.take_state.proofs.TakeLemmas.{few_records, parts_of, room_left}
use Rattle.take_state.proofs.state.TakeState.finish.Goals as goal

pub add-requires : goal.add-requires
add-requires g c =
    let p = parts_of c.self.inside in
    let grows = subst (λ (v : TakeSeen g.row.D.Denot). phase_of v ≡ phase.Growing) (sym c.self.view_is) c.requires.growing in
    room_left g.L.TakeLayout g.D.TakeDisk g.U.TakeUnits.units p c.self.invariant grows

pub overflow_add-self : goal.overflow_add-self
overflow_add-self g c =
    let p = parts_of c.self.inside in
    let grows = subst (λ (v : TakeSeen g.row.D.Denot). phase_of v ≡ phase.Growing) (sym c.self.view_is) c.requires.growing in
    let few = few_records g.L.TakeLayout g.D.TakeDisk g.U.TakeUnits.units p c.self.invariant grows in
    omega (arith, few)

pub invariant_of-self : goal.invariant_of-self
invariant_of-self g c =
    let p = parts_of c.self.inside in
    let grows = subst (λ (v : TakeSeen g.row.D.Denot). phase_of v ≡ phase.Growing) (sym c.self.view_is) c.requires.growing in
    let opened = subst (λ (v : TakeSeen g.row.D.Denot). (mark : Mark) × (v.commit ≡ Opened mark) × (mark.closed ≡ true)) (sym c.self.view_is) c.requires.opened in
    let mark = opened.0 in
    told_whole g.L.TakeLayout g.D.TakeDisk g.U.TakeUnits.units p mark c.add.new.self c.self.invariant grows opened.1 opened.2 c.add.ensures

pub returns-clause-crash : goal.returns-clause-crash
returns-clause-crash g c =
    let p = parts_of c.self.inside in
    let k = c.self.invariant in
    let same = published-push p.history.entries entry.Closed in
    let new : TakeSeen g.row.D.Denot = record (seen_of p) { history = c.add.new.self.entries; commit = Idle; out = None } in
    let more : published_in c.add.new.self.entries ≡ published_in (p.history.entries ++ entry.Closed ∷ []) =
    ap (λ (h : Recorded). published_in h.entries) c.add.ensures in
    silent g.L.TakeLayout g.D.TakeDisk g.U.TakeUnits.units g.met.D.TakeDisk.crash (seen_of p) c.args.self.now new k.units c.self.view_is k.stands
    (omega (arith, same, more)) refl
