use Rattle.std.proofs.Common.{◌≡◌, ◌∙◌, ◌+◌, ◌∷◌, ◌++◌, [], ℕ, List, None, Ok, true, false, length, refl, sym, ap, subst, arith, rules}
use Rattle.take_core.specs.History.{published_in}
use Rattle.take_core.specs.Recorded.{Recorded}
use Rattle.take_core.specs.declared.commit_phase.CommitPhase.TheVariants.{Idle, MarkOut}
use Rattle.take_core.specs.declared.entry.Entry.TheVariants as entry
use Rattle.take_core.specs.declared.snapshot.Phase.TheVariants as phase
use Rattle.take_disk.specs.declared.area.Area.TheVariants.{Essence}
use Rattle.take_state.specs.Seen.{TakeSeen, acked, phase_of, published}
use Rattle.take_state.specs.inner.Keeping.{KeepsTake, seen_of}
use Rattle.take_state.proofs.CommitLemmas.{behind_safe, behind_stop, tailed}
use Rattle.take_state.proofs.CrashLemmas.{called, writes_safe}
use Rattle.take_state.proofs.HistoryLemmas.{latest-published, published-push}
use Rattle.take_state.proofs.TakeLemmas.{parts_of, refilled, same_buffer}
use Rattle.take_state.proofs.WriteLemmas.{some_faults, wrote_ok}
use Rattle.take_state.proofs.state.TakeState.write_tail.Goals as goal

pub invariant_of-self : goal.invariant_of-self
invariant_of-self g c =
    let p = parts_of c.self.inside in
    let k = c.self.invariant in
    let grows = subst (λ (v : TakeSeen g.row.D.Denot). phase_of v ≡ phase.Growing) (sym c.self.view_is) c.requires.growing in
    let none = subst (λ (v : TakeSeen g.row.D.Denot). v.tail ≡ false) (sym c.self.view_is) c.requires.no_tail in
    let place = c.len-at.ensures.ends k.units k.lie in
    let wrote = c.put_tail.ensures.wrote k.units k.lie in
    let failed = some_faults _ _ c.put_tail.result c.put_tail.ensures.cause.failed (sym c.is_err.ensures.value ∙ c.if-is_err.true) in
    let done = behind_stop g.L.TakeLayout g.D.TakeDisk g.U.TakeUnits.units p c.put_tail.new.disk c.len-at.result (length (g.L.TakeLayout.tail p.file.config k.units))
    c.note_stop.new.history c.note_stop.new.stop c.faults-faults.result k grows (omega (arith, failed, c.faults-faults.ensures)) c.note_stop.ensures.told
    c.note_stop.ensures.stop wrote.lengths.least none place wrote.inside in
    same_buffer g.L.TakeLayout g.D.TakeDisk g.U.TakeUnits.units _ _ (refilled c.self.inside.buffer.len c.self.inside.buffer.items c.put_tail.new.buffer (search rules)) done

pub returns-then-is_err-clause-crash : goal.returns-then-is_err-clause-crash
returns-then-is_err-clause-crash g c =
    let p = parts_of c.self.inside in
    let k = c.self.invariant in
    let grows = subst (λ (v : TakeSeen g.row.D.Denot). phase_of v ≡ phase.Growing) (sym c.self.view_is) c.requires.growing in
    let none = subst (λ (v : TakeSeen g.row.D.Denot). v.tail ≡ false) (sym c.self.view_is) c.requires.no_tail in
    let count : ℕ = length (g.L.TakeLayout.tail p.file.config k.units) in
    let same = published-push p.history.entries (entry.Stopped c.faults-faults.result) in
    let more : published_in c.note_stop.new.history.entries ≡ published_in (p.history.entries ++ entry.Stopped c.faults-faults.result ∷ []) =
    ap (λ (h : Recorded). published_in h.entries) c.note_stop.ensures.told in
    called g.L.TakeLayout g.D.TakeDisk g.U.TakeUnits.units g.met.D.TakeDisk.crash (seen_of p) c.args.self.now
    (record (seen_of p) { disk = c.put_tail.new.disk; history = c.note_stop.new.history.entries }) k.units c.self.view_is k.stands (omega (arith, same, more))
    (writes_safe g.L.TakeLayout g.D.TakeDisk p.file.config k.units (acked (seen_of p)) Essence c.len-at.result count p.disk c.put_tail.new.disk
    (c.put_tail.ensures.wrote k.units k.lie).inside
    (behind_safe g.L.TakeLayout g.D.TakeDisk g.U.TakeUnits.units p c.len-at.result count k grows none (c.len-at.ensures.ends k.units k.lie)))

pub invariant_of-self-2 : goal.invariant_of-self-2
invariant_of-self-2 g c =
    let p = parts_of c.self.inside in
    let k = c.self.invariant in
    let grows = subst (λ (v : TakeSeen g.row.D.Denot). phase_of v ≡ phase.Growing) (sym c.self.view_is) c.requires.growing in
    let idle = subst (λ (v : TakeSeen g.row.D.Denot). v.commit ≡ Idle) (sym c.self.view_is) c.requires.idle in
    let level = subst (λ (v : TakeSeen g.row.D.Denot). acked v ≡ published v) (sym c.self.view_is) c.requires.level in
    let none = subst (λ (v : TakeSeen g.row.D.Denot). v.tail ≡ false) (sym c.self.view_is) c.requires.no_tail in
    let tail = g.L.TakeLayout.tail p.file.config k.units in
    let wrote = wrote_ok g.D.TakeDisk Essence c.len-at.result tail p.disk c.put_tail.new.disk c.put_tail.result (c.put_tail.ensures.wrote k.units k.lie)
    (sym c.is_err.ensures.value ∙ c.if-is_err.false) in
    let done = tailed g.L.TakeLayout g.D.TakeDisk g.U.TakeUnits.units p c.put_tail.new.disk c.len-at.result c.len.result _ tail tt g.met.D.TakeDisk.long k grows
    idle level none (c.len-at.ensures.ends k.units k.lie) refl c.len.ensures
    (ap (λ (n : ℕ). record { count = n; length = c.len.result; closed = true }) (latest-published p.history.entries c.latest.result c.latest.ensures)) wrote in
    same_buffer g.L.TakeLayout g.D.TakeDisk g.U.TakeUnits.units _ _ (refilled c.self.inside.buffer.len c.self.inside.buffer.items c.put_tail.new.buffer (search rules)) done

pub returns-clause-crash : goal.returns-clause-crash
returns-clause-crash g c =
    let p = parts_of c.self.inside in
    let k = c.self.invariant in
    let grows = subst (λ (v : TakeSeen g.row.D.Denot). phase_of v ≡ phase.Growing) (sym c.self.view_is) c.requires.growing in
    let none = subst (λ (v : TakeSeen g.row.D.Denot). v.tail ≡ false) (sym c.self.view_is) c.requires.no_tail in
    let count : ℕ = length (g.L.TakeLayout.tail p.file.config k.units) in
    called g.L.TakeLayout g.D.TakeDisk g.U.TakeUnits.units g.met.D.TakeDisk.crash (seen_of p) c.args.self.now
    (record (seen_of p) { disk = c.put_tail.new.disk; commit = MarkOut (record { count = c.latest.result.published; length = c.len.result; closed = true }); tail = true; out = None })
    k.units c.self.view_is k.stands (omega arith)
    (writes_safe g.L.TakeLayout g.D.TakeDisk p.file.config k.units (acked (seen_of p)) Essence c.len-at.result count p.disk c.put_tail.new.disk
    (c.put_tail.ensures.wrote k.units k.lie).inside
    (behind_safe g.L.TakeLayout g.D.TakeDisk g.U.TakeUnits.units p c.len-at.result count k grows none (c.len-at.ensures.ends k.units k.lie)))
