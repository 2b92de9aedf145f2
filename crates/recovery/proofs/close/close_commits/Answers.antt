use Rattle.std.proofs.Common.{◌++◌, ◌∷◌, [], length}
use Rattle.take_core.specs.declared.commit_phase.CommitPhase.TheVariants.{NoteOut, Noted, GateOut, Opened}
use Rattle.take_disk.specs.declared.area.Area.TheVariants.{Commits}
use Rattle.take_disk.specs.laws.TimeLaws.{elapsed_once, elapsed_more}
use Rattle.commit_phases.specs.laws.Runs.{all_past, begun}
use Rattle.commit_sidecar.specs.Notes.{note_of}
use Rattle.recovery.proofs.CloseLemmas.{noting_safe, noting_torn, noting_done, at_gate_safe, at_gate_synced, opening_safe, opening_done}
use Rattle.recovery.proofs.CloseLemmas.{opened_closed, noted_reads, safe_then, safe_still}
use Rattle.recovery.proofs.close.close_commits.Goals as goal

pub returns-in_err-write-clause-safe : goal.returns-in_err-write-clause-safe
returns-in_err-write-clause-safe g c = λ cfg units records start.
    let l = g.L.TakeLayout in let laws = c.lays_out.ensures in let d = g.D.TakeDisk in let T = d.told in let crash = g.met.D.TakeDisk.crash in
    let gate = c.args.gate in let mark = c.args.mark in
    let d0 = c.args.disk.now in let d1 = c.write.new.self in
    let may = noting_torn l laws cfg units records gate mark (length c.put_note.new.out) (T d0) (T d1) start c.write.ensures.torn in
    let r1 = safe_then l laws cfg units records d crash d0 d0 d1 _ (begun d _ d0) c.write.ensures.torn c.write.ensures.time
    (noting_safe l laws cfg units records gate mark (T d1) may) in
    r1.goes

pub returns-in_err-sync-clause-safe : goal.returns-in_err-sync-clause-safe
returns-in_err-sync-clause-safe g c = λ cfg units records start.
    let l = g.L.TakeLayout in let laws = c.lays_out.ensures in let d = g.D.TakeDisk in let T = d.told in let crash = g.met.D.TakeDisk.crash in
    let gate = c.args.gate in let mark = c.args.mark in
    let d0 = c.args.disk.now in let d1 = c.write.new.self in
    let may = noting_torn l laws cfg units records gate mark (length c.put_note.new.out) (T d0) (T d1) start c.write.ensures.torn in
    let r1 = safe_then l laws cfg units records d crash d0 d0 d1 _ (begun d _ d0) c.write.ensures.torn c.write.ensures.time
    (noting_safe l laws cfg units records gate mark (T d1) may) in
    let d2 = c.sync.new.self in
    (safe_still l laws cfg units records d crash d0 d1 d2 r1 c.in_err-sync.ensures.unchanged c.sync.ensures.time
    (noting_safe l laws cfg units records gate mark (T d1) may)).goes

pub returns-in_err-write-2-clause-safe : goal.returns-in_err-write-2-clause-safe
returns-in_err-write-2-clause-safe g c = λ cfg units records start.
    let l = g.L.TakeLayout in let laws = c.lays_out.ensures in let d = g.D.TakeDisk in let T = d.told in let crash = g.met.D.TakeDisk.crash in
    let gate = c.args.gate in let mark = c.args.mark in
    let d0 = c.args.disk.now in let d1 = c.write.new.self in
    let may = noting_torn l laws cfg units records gate mark (length c.put_note.new.out) (T d0) (T d1) start c.write.ensures.torn in
    let r1 = safe_then l laws cfg units records d crash d0 d0 d1 _ (begun d _ d0) c.write.ensures.torn c.write.ensures.time
    (noting_safe l laws cfg units records gate mark (T d1) may) in
    let d2 = c.sync.new.self in
    let out = noting_done l laws cfg units records gate mark c.put_note.new.out (T d0)
    (T d1) c.put_note.ensures.written start c.write.ensures.torn c.in_ok-write.ensures.written in
    let noted = at_gate_synced l laws cfg units records gate mark (NoteOut mark) (d.moment d1) (T d1) (T d2) tt
    (all_past d g.met.D.TakeDisk.past d1 Commits) out c.in_ok-sync.ensures.synced in
    let r2 = safe_then l laws cfg units records d crash d0 d1 d2 _ r1 c.in_ok-sync.ensures.synced c.sync.ensures.time
    (at_gate_safe l laws cfg units records gate mark (Noted mark) (T d2) noted) in
    let d3 = c.write-2.new.self in
    let opening = opening_safe l laws cfg units records gate mark (T d2) (T d3) noted c.write-2.ensures.torn in
    let r3 = safe_then l laws cfg units records d crash d0 d2 d3 _ r2 c.write-2.ensures.torn c.write-2.ensures.time opening in
    r3.goes

pub returns-in_err-sync-2-clause-safe : goal.returns-in_err-sync-2-clause-safe
returns-in_err-sync-2-clause-safe g c = λ cfg units records start.
    let l = g.L.TakeLayout in let laws = c.lays_out.ensures in let d = g.D.TakeDisk in let T = d.told in let crash = g.met.D.TakeDisk.crash in
    let gate = c.args.gate in let mark = c.args.mark in
    let d0 = c.args.disk.now in let d1 = c.write.new.self in
    let may = noting_torn l laws cfg units records gate mark (length c.put_note.new.out) (T d0) (T d1) start c.write.ensures.torn in
    let r1 = safe_then l laws cfg units records d crash d0 d0 d1 _ (begun d _ d0) c.write.ensures.torn c.write.ensures.time
    (noting_safe l laws cfg units records gate mark (T d1) may) in
    let d2 = c.sync.new.self in
    let out = noting_done l laws cfg units records gate mark c.put_note.new.out (T d0)
    (T d1) c.put_note.ensures.written start c.write.ensures.torn c.in_ok-write.ensures.written in
    let noted = at_gate_synced l laws cfg units records gate mark (NoteOut mark) (d.moment d1) (T d1) (T d2) tt
    (all_past d g.met.D.TakeDisk.past d1 Commits) out c.in_ok-sync.ensures.synced in
    let r2 = safe_then l laws cfg units records d crash d0 d1 d2 _ r1 c.in_ok-sync.ensures.synced c.sync.ensures.time
    (at_gate_safe l laws cfg units records gate mark (Noted mark) (T d2) noted) in
    let d3 = c.write-2.new.self in
    let opening = opening_safe l laws cfg units records gate mark (T d2) (T d3) noted c.write-2.ensures.torn in
    let r3 = safe_then l laws cfg units records d crash d0 d2 d3 _ r2 c.write-2.ensures.torn c.write-2.ensures.time opening in
    let d4 = c.sync-2.new.self in
    (safe_still l laws cfg units records d crash d0 d3 d4 r3 c.in_err-sync-2.ensures.unchanged c.sync-2.ensures.time opening).goes

pub returns-clause-safe : goal.returns-clause-safe
returns-clause-safe g c = λ cfg units records start.
    let l = g.L.TakeLayout in let laws = c.lays_out.ensures in let d = g.D.TakeDisk in let T = d.told in let crash = g.met.D.TakeDisk.crash in
    let gate = c.args.gate in let mark = c.args.mark in
    let d0 = c.args.disk.now in let d1 = c.write.new.self in
    let may = noting_torn l laws cfg units records gate mark (length c.put_note.new.out) (T d0) (T d1) start c.write.ensures.torn in
    let r1 = safe_then l laws cfg units records d crash d0 d0 d1 _ (begun d _ d0) c.write.ensures.torn c.write.ensures.time
    (noting_safe l laws cfg units records gate mark (T d1) may) in
    let d2 = c.sync.new.self in
    let out = noting_done l laws cfg units records gate mark c.put_note.new.out (T d0)
    (T d1) c.put_note.ensures.written start c.write.ensures.torn c.in_ok-write.ensures.written in
    let noted = at_gate_synced l laws cfg units records gate mark (NoteOut mark) (d.moment d1) (T d1) (T d2) tt
    (all_past d g.met.D.TakeDisk.past d1 Commits) out c.in_ok-sync.ensures.synced in
    let r2 = safe_then l laws cfg units records d crash d0 d1 d2 _ r1 c.in_ok-sync.ensures.synced c.sync.ensures.time
    (at_gate_safe l laws cfg units records gate mark (Noted mark) (T d2) noted) in
    let d3 = c.write-2.new.self in
    let opening = opening_safe l laws cfg units records gate mark (T d2) (T d3) noted c.write-2.ensures.torn in
    let r3 = safe_then l laws cfg units records d crash d0 d2 d3 _ r2 c.write-2.ensures.torn c.write-2.ensures.time opening in
    let d4 = c.sync-2.new.self in
    let gate_out = opening_done l laws cfg units records gate mark (T d2) (T d3) noted c.write-2.ensures.torn c.in_ok-write-2.ensures.written in
    let opened = at_gate_synced l laws cfg units records gate mark (GateOut mark) (d.moment d3) (T d3) (T d4) tt
    (all_past d g.met.D.TakeDisk.past d3 Commits) gate_out c.in_ok-sync-2.ensures.synced in
    (safe_then l laws cfg units records d crash d0 d3 d4 _ r3 c.in_ok-sync-2.ensures.synced c.sync-2.ensures.time
    (at_gate_safe l laws cfg units records gate mark (Opened mark) (T d4) opened)).goes

pub returns-clause-closed : goal.returns-clause-closed
returns-clause-closed g c = λ cfg units records start.
    let l = g.L.TakeLayout in let laws = c.lays_out.ensures in let d = g.D.TakeDisk in let T = d.told in let crash = g.met.D.TakeDisk.crash in
    let gate = c.args.gate in let mark = c.args.mark in
    let d0 = c.args.disk.now in let d1 = c.write.new.self in
    let d3 = c.write-2.new.self in
    let d2 = c.sync.new.self in
    let out = noting_done l laws cfg units records gate mark c.put_note.new.out (T d0)
    (T d1) c.put_note.ensures.written start c.write.ensures.torn c.in_ok-write.ensures.written in
    let noted = at_gate_synced l laws cfg units records gate mark (NoteOut mark) (d.moment d1) (T d1) (T d2) tt
    (all_past d g.met.D.TakeDisk.past d1 Commits) out c.in_ok-sync.ensures.synced in
    let d4 = c.sync-2.new.self in
    let gate_out = opening_done l laws cfg units records gate mark (T d2) (T d3) noted c.write-2.ensures.torn c.in_ok-write-2.ensures.written in
    let opened = at_gate_synced l laws cfg units records gate mark (GateOut mark) (d.moment d3) (T d3) (T d4) tt
    (all_past d g.met.D.TakeDisk.past d3 Commits) gate_out c.in_ok-sync-2.ensures.synced in
    opened_closed l laws cfg units records gate mark (T d4) opened

pub returns-clause-noted : goal.returns-clause-noted
returns-clause-noted g c =
    let d = g.D.TakeDisk in let T = d.told in
    noted_reads c.args.gate (note_of c.args.mark ++ 0 ∷ []) c.put_note.new.out (d.moment c.write.new.self) (d.moment c.write-2.new.self)
    (T c.args.disk.now) (T c.write.new.self) (T c.sync.new.self) (T c.write-2.new.self) (T c.sync-2.new.self) c.put_note.ensures.written
    c.in_ok-write.ensures.written c.in_ok-sync.ensures.synced c.in_ok-write-2.ensures.written c.in_ok-sync-2.ensures.synced

pub returns-in_err-write-2-clause-time : goal.returns-in_err-write-2-clause-time
returns-in_err-write-2-clause-time g c =
    elapsed_more _ _ _ _ _ _ _ _ _ (elapsed_more _ _ _ _ _ _ _ _ _ (elapsed_once _ _ _ _ _ _ c.write.ensures.time)
    (elapsed_once _ _ _ _ _ _ c.sync.ensures.time))
    (elapsed_once _ _ _ _ _ _ c.write-2.ensures.time)

pub returns-in_err-sync-2-clause-time : goal.returns-in_err-sync-2-clause-time
returns-in_err-sync-2-clause-time g c =
    elapsed_more _ _ _ _ _ _ _ _ _
    (elapsed_more _ _ _ _ _ _ _ _ _ (elapsed_more _ _ _ _ _ _ _ _ _ (elapsed_once _ _ _ _ _ _ c.write.ensures.time)
    (elapsed_once _ _ _ _ _ _ c.sync.ensures.time))
    (elapsed_once _ _ _ _ _ _ c.write-2.ensures.time))
    (elapsed_once _ _ _ _ _ _ c.sync-2.ensures.time)

pub returns-clause-time : goal.returns-clause-time
returns-clause-time g c =
    elapsed_more _ _ _ _ _ _ _ _ _
    (elapsed_more _ _ _ _ _ _ _ _ _ (elapsed_more _ _ _ _ _ _ _ _ _ (elapsed_once _ _ _ _ _ _ c.write.ensures.time)
    (elapsed_once _ _ _ _ _ _ c.sync.ensures.time))
    (elapsed_once _ _ _ _ _ _ c.write-2.ensures.time))
    (elapsed_once _ _ _ _ _ _ c.sync-2.ensures.time)
