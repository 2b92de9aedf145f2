use Rattle.std.proofs.Common.{◌+◌, ◌++◌, ◌∷◌, [], length, List, ℕ}
use Rattle.rec_bytes.specs.Places.{with_bytes}
use Rattle.commit_phases.specs.laws.Runs.{goes_more}
use Rattle.commit_sidecar.specs.Notes.{note_of}
use Rattle.commit_sidecar.specs.Recovers.{IsSafe}
use Rattle.recovery.specs.Recoveries.{closed_mark}
use Rattle.recovery.proofs.CloseLemmas.{may_note, noted_after}
use Rattle.recovery.proofs.close.close_both.Goals as goal

pub returns-in_err-close_commits-clause-safe : goal.returns-in_err-close_commits-clause-safe
returns-in_err-close_commits-clause-safe g c = λ cfg units records start gate_is mark_is.
    let l = g.L.TakeLayout in let d = g.D.TakeDisk in let d0 = c.args.disk.now in let d1 = c.close_essence.new.disk in let d2 = c.close_commits.new.disk in
    let may = may_note l cfg units records c.args.gate c.args.mark (closed_mark (length units) (c.args.at + length c.args.tail.now)) (d.told d1) gate_is mark_is
    (c.in_ok-close_essence.ensures.closed cfg units records start) in
    goes_more d (IsSafe l cfg units (length units)) d0 d1 d2 _ c.close_essence.ensures.time.later c.close_essence.ensures.commits
    (c.close_essence.ensures.safe cfg units records start) (c.close_commits.ensures.safe cfg units records may)

pub returns-clause-safe : goal.returns-clause-safe
returns-clause-safe g c = λ cfg units records start gate_is mark_is.
    let l = g.L.TakeLayout in let d = g.D.TakeDisk in let d0 = c.args.disk.now in let d1 = c.close_essence.new.disk in let d2 = c.close_commits.new.disk in
    let may = may_note l cfg units records c.args.gate c.args.mark (closed_mark (length units) (c.args.at + length c.args.tail.now)) (d.told d1) gate_is mark_is
    (c.in_ok-close_essence.ensures.closed cfg units records start) in
    goes_more d (IsSafe l cfg units (length units)) d0 d1 d2 _ c.close_essence.ensures.time.later c.close_essence.ensures.commits
    (c.close_essence.ensures.safe cfg units records start) (c.close_commits.ensures.safe cfg units records may)

pub returns-clause-noted : goal.returns-clause-noted
returns-clause-noted g c =
    let T = g.D.TakeDisk.told in
    noted_after (λ (old : List ℕ). with_bytes (with_bytes old (c.args.gate + 1) (note_of c.args.mark ++ 0 ∷ [])) c.args.gate (1 ∷ []))
    (T c.args.disk.now) (T c.close_essence.new.disk) (T c.close_commits.new.disk) c.close_essence.ensures.commits c.in_ok-close_commits.ensures.noted
