use Rattle.std.proofs.Common.{◌≡◌, ◌∙◌, ◌+◌, ◌∷◌, ◌++◌, [], ℕ, List, None, Ok, length, refl, sym, ap, subst, arith}
use Rattle.take_core.specs.History.{published_in}
use Rattle.take_core.specs.Recorded.{Recorded}
use Rattle.take_core.specs.declared.commit_phase.CommitPhase.TheVariants.{Marked, NoteOut}
use Rattle.take_core.specs.declared.entry.Entry.TheVariants as entry
use Rattle.take_core.specs.declared.mark.Mark.{Mark}
use Rattle.take_core.specs.declared.snapshot.Phase.TheVariants as phase
use Rattle.take_disk.specs.declared.area.Area.TheVariants.{Commits}
use Rattle.commit_sidecar.specs.Notes.{note_of}
use Rattle.commit_sidecar.specs.Says.{gate_place}
use Rattle.take_state.specs.Seen.{TakeSeen, acked, phase_of}
use Rattle.take_state.specs.inner.Keeping.{KeepsTake, seen_of}
use Rattle.take_state.specs.inner.Writing.{Wrote}
use Rattle.take_state.proofs.CommitLemmas.{commits_stop, note_safe, noted}
use Rattle.take_state.proofs.CrashLemmas.{called, writes_safe}
use Rattle.take_state.proofs.HistoryLemmas.{published-push}
use Rattle.take_state.proofs.TakeLemmas.{parts_of}
use Rattle.take_state.proofs.WriteLemmas.{some_faults, wrote_ok}
use Rattle.take_state.proofs.state.TakeState.note_record.Goals as goal

pub invariant_of-self : goal.invariant_of-self
invariant_of-self g c =
    let p = parts_of c.self.inside in
    let k = c.self.invariant in
    let grows = subst (λ (v : TakeSeen g.row.D.Denot). phase_of v ≡ phase.Growing) (sym c.self.view_is) c.requires.growing in
    let marked = subst (λ (v : TakeSeen g.row.D.Denot). (mark : Mark) × (v.commit ≡ Marked mark)) (sym c.self.view_is) c.requires.marked in
    let at : ℕ = c.gate_at-at.result + 1 in
    let place : at ≡ gate_place p.records + 1 = ap (λ (n : ℕ). n + 1) c.gate_at-at.ensures in
    let wrote = c.write_at.ensures.wrote in
    let failed = some_faults _ _ c.write_at.result c.write_at.ensures.cause.failed (sym c.is_err.ensures.value ∙ c.if-is_err.true) in
    commits_stop g.L.TakeLayout g.D.TakeDisk g.U.TakeUnits.units p c.write_at.new.disk at (length c.put_note.new.out) c.note_stop.new.history c.note_stop.new.stop
    c.faults-faults.result k grows (omega (arith, failed, c.faults-faults.ensures)) c.note_stop.ensures.told c.note_stop.ensures.stop wrote.lengths.same wrote.inside
    (note_safe g.L.TakeLayout g.D.TakeDisk g.U.TakeUnits.units p marked.0 at c.put_note.new.out k grows marked.1 place)

pub returns-then-is_err-clause-crash : goal.returns-then-is_err-clause-crash
returns-then-is_err-clause-crash g c =
    let p = parts_of c.self.inside in
    let k = c.self.invariant in
    let grows = subst (λ (v : TakeSeen g.row.D.Denot). phase_of v ≡ phase.Growing) (sym c.self.view_is) c.requires.growing in
    let marked = subst (λ (v : TakeSeen g.row.D.Denot). (mark : Mark) × (v.commit ≡ Marked mark)) (sym c.self.view_is) c.requires.marked in
    let at : ℕ = c.gate_at-at.result + 1 in
    let place : at ≡ gate_place p.records + 1 = ap (λ (n : ℕ). n + 1) c.gate_at-at.ensures in
    let same = published-push p.history.entries (entry.Stopped c.faults-faults.result) in
    let more : published_in c.note_stop.new.history.entries ≡ published_in (p.history.entries ++ entry.Stopped c.faults-faults.result ∷ []) =
    ap (λ (h : Recorded). published_in h.entries) c.note_stop.ensures.told in
    called g.L.TakeLayout g.D.TakeDisk g.U.TakeUnits.units g.met.D.TakeDisk.crash (seen_of p) c.args.self.now
    (record (seen_of p) { disk = c.write_at.new.disk; history = c.note_stop.new.history.entries }) k.units c.self.view_is k.stands (omega (arith, same, more))
    (writes_safe g.L.TakeLayout g.D.TakeDisk p.file.config k.units (acked (seen_of p)) Commits at (length c.put_note.new.out) p.disk c.write_at.new.disk
    c.write_at.ensures.wrote.inside (note_safe g.L.TakeLayout g.D.TakeDisk g.U.TakeUnits.units p marked.0 at c.put_note.new.out k grows marked.1 place))

pub invariant_of-self-2 : goal.invariant_of-self-2
invariant_of-self-2 g c =
    let p = parts_of c.self.inside in
    let grows = subst (λ (v : TakeSeen g.row.D.Denot). phase_of v ≡ phase.Growing) (sym c.self.view_is) c.requires.growing in
    let marked = subst (λ (v : TakeSeen g.row.D.Denot). (mark : Mark) × (v.commit ≡ Marked mark)) (sym c.self.view_is) c.requires.marked in
    let mark = c.mark_on-mark.result in
    let is : mark ≡ marked.0 = c.mark_on-mark.ensures.marked marked.0 marked.1 in
    let at : ℕ = c.gate_at-at.result + 1 in
    let place : at ≡ gate_place p.records + 1 = ap (λ (n : ℕ). n + 1) c.gate_at-at.ensures in
    let wrote = wrote_ok g.D.TakeDisk Commits at c.put_note.new.out p.disk c.write_at.new.disk c.write_at.result c.write_at.ensures.wrote
    (sym c.is_err.ensures.value ∙ c.if-is_err.false) in
    noted g.L.TakeLayout g.D.TakeDisk g.U.TakeUnits.units p c.write_at.new.disk mark at tt c.self.invariant grows (marked.1 ∙ ap Marked (sym is)) place
    (subst (λ (bytes : List ℕ). Wrote g.D.TakeDisk Commits at bytes p.disk c.write_at.new.disk (Ok tt)) c.put_note.ensures.written wrote)

pub returns-clause-crash : goal.returns-clause-crash
returns-clause-crash g c =
    let p = parts_of c.self.inside in
    let k = c.self.invariant in
    let grows = subst (λ (v : TakeSeen g.row.D.Denot). phase_of v ≡ phase.Growing) (sym c.self.view_is) c.requires.growing in
    let marked = subst (λ (v : TakeSeen g.row.D.Denot). (mark : Mark) × (v.commit ≡ Marked mark)) (sym c.self.view_is) c.requires.marked in
    let at : ℕ = c.gate_at-at.result + 1 in
    let place : at ≡ gate_place p.records + 1 = ap (λ (n : ℕ). n + 1) c.gate_at-at.ensures in
    called g.L.TakeLayout g.D.TakeDisk g.U.TakeUnits.units g.met.D.TakeDisk.crash (seen_of p) c.args.self.now
    (record (seen_of p) { disk = c.write_at.new.disk; commit = NoteOut c.mark_on-mark.result; out = None }) k.units c.self.view_is k.stands (omega arith)
    (writes_safe g.L.TakeLayout g.D.TakeDisk p.file.config k.units (acked (seen_of p)) Commits at (length c.put_note.new.out) p.disk c.write_at.new.disk
    c.write_at.ensures.wrote.inside (note_safe g.L.TakeLayout g.D.TakeDisk g.U.TakeUnits.units p marked.0 at c.put_note.new.out k grows marked.1 place))
