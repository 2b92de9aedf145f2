use Rattle.std.proofs.Common.{◌+◌, length, true}
use Rattle.take_core.specs.declared.commit_phase.CommitPhase.TheVariants.{MarkOut, Marked}
use Rattle.take_disk.specs.declared.area.Area.TheVariants.{Essence}
use Rattle.commit_phases.specs.laws.Runs.{all_past, begun}
use Rattle.recovery.specs.Recoveries.{closed_mark}
use Rattle.recovery.proofs.CloseLemmas.{may_safe, stands_safe, cut_torn, cut_done, write_torn, write_done, synced, safe_then, safe_still}
use Rattle.recovery.proofs.close.close_essence.Goals as goal

pub returns-in_err-cut-clause-safe : goal.returns-in_err-cut-clause-safe
returns-in_err-cut-clause-safe g c = λ cfg units records start.
    let l = g.L.TakeLayout in let laws = c.lays_out.ensures in let d = g.D.TakeDisk in let T = d.told in let crash = g.met.D.TakeDisk.crash in
    let at = c.args.at in let tail = c.args.tail.now in
    let d0 = c.args.disk.now in
    let d1 = c.cut.new.self in
    let may = cut_torn l laws cfg units records at tail (T d0) (T d1) start c.cut.ensures.torn in
    let r1 = safe_then l laws cfg units records d crash d0 d0 d1 _ (begun d _ d0) c.cut.ensures.torn c.cut.ensures.time
    (may_safe l laws cfg units records at tail (T d1) may) in
    r1.goes

pub returns-in_err-write-clause-safe : goal.returns-in_err-write-clause-safe
returns-in_err-write-clause-safe g c = λ cfg units records start.
    let l = g.L.TakeLayout in let laws = c.lays_out.ensures in let d = g.D.TakeDisk in let T = d.told in let crash = g.met.D.TakeDisk.crash in
    let at = c.args.at in let tail = c.args.tail.now in
    let d0 = c.args.disk.now in
    let d1 = c.cut.new.self in
    let may = cut_torn l laws cfg units records at tail (T d0) (T d1) start c.cut.ensures.torn in
    let r1 = safe_then l laws cfg units records d crash d0 d0 d1 _ (begun d _ d0) c.cut.ensures.torn c.cut.ensures.time
    (may_safe l laws cfg units records at tail (T d1) may) in
    let d2 = c.write.new.self in
    let torn = write_torn l laws cfg units records at tail (T d1) (T d2) may c.write.ensures.torn in
    let r2 = safe_then l laws cfg units records d crash d0 d1 d2 _ r1 c.write.ensures.torn c.write.ensures.time
    (may_safe l laws cfg units records at tail (T d2) torn) in
    r2.goes

pub returns-in_err-sync-clause-safe : goal.returns-in_err-sync-clause-safe
returns-in_err-sync-clause-safe g c = λ cfg units records start.
    let l = g.L.TakeLayout in let laws = c.lays_out.ensures in let d = g.D.TakeDisk in let T = d.told in let crash = g.met.D.TakeDisk.crash in
    let at = c.args.at in let tail = c.args.tail.now in
    let d0 = c.args.disk.now in
    let d1 = c.cut.new.self in
    let may = cut_torn l laws cfg units records at tail (T d0) (T d1) start c.cut.ensures.torn in
    let r1 = safe_then l laws cfg units records d crash d0 d0 d1 _ (begun d _ d0) c.cut.ensures.torn c.cut.ensures.time
    (may_safe l laws cfg units records at tail (T d1) may) in
    let d2 = c.write.new.self in
    let torn = write_torn l laws cfg units records at tail (T d1) (T d2) may c.write.ensures.torn in
    let r2 = safe_then l laws cfg units records d crash d0 d1 d2 _ r1 c.write.ensures.torn c.write.ensures.time
    (may_safe l laws cfg units records at tail (T d2) torn) in
    let d3 = c.sync.new.self in
    (safe_still l laws cfg units records d crash d0 d2 d3 r2 c.in_err-sync.ensures.unchanged c.sync.ensures.time
    (may_safe l laws cfg units records at tail (T d2) torn)).goes

pub returns-clause-safe : goal.returns-clause-safe
returns-clause-safe g c = λ cfg units records start.
    let l = g.L.TakeLayout in let laws = c.lays_out.ensures in let d = g.D.TakeDisk in let T = d.told in let crash = g.met.D.TakeDisk.crash in
    let at = c.args.at in let tail = c.args.tail.now in
    let d0 = c.args.disk.now in
    let d1 = c.cut.new.self in
    let may = cut_torn l laws cfg units records at tail (T d0) (T d1) start c.cut.ensures.torn in
    let r1 = safe_then l laws cfg units records d crash d0 d0 d1 _ (begun d _ d0) c.cut.ensures.torn c.cut.ensures.time
    (may_safe l laws cfg units records at tail (T d1) may) in
    let d2 = c.write.new.self in
    let torn = write_torn l laws cfg units records at tail (T d1) (T d2) may c.write.ensures.torn in
    let r2 = safe_then l laws cfg units records d crash d0 d1 d2 _ r1 c.write.ensures.torn c.write.ensures.time
    (may_safe l laws cfg units records at tail (T d2) torn) in
    let is_cut = cut_done l laws cfg units records at tail (T d0) (T d1) start c.cut.ensures.torn c.in_ok-cut.ensures.cut in
    let out = write_done l laws cfg units records at tail (T d1) (T d2) is_cut c.write.ensures.torn c.in_ok-write.ensures.written in
    let mark = closed_mark (length units) (at + length tail) in
    let d3 = c.sync.new.self in
    let marked = synced l laws cfg units records (MarkOut mark) true (d.moment d2) (T d2) (T d3) tt
    (all_past d g.met.D.TakeDisk.past d2 Essence) out c.in_ok-sync.ensures.synced in
    (safe_then l laws cfg units records d crash d0 d2 d3 _ r2 c.in_ok-sync.ensures.synced c.sync.ensures.time
    (stands_safe l laws cfg units records (T d3) true (Marked mark) marked)).goes

pub returns-clause-closed : goal.returns-clause-closed
returns-clause-closed g c = λ cfg units records start.
    let l = g.L.TakeLayout in let laws = c.lays_out.ensures in let d = g.D.TakeDisk in let T = d.told in let crash = g.met.D.TakeDisk.crash in
    let at = c.args.at in let tail = c.args.tail.now in
    let d0 = c.args.disk.now in
    let d1 = c.cut.new.self in let d2 = c.write.new.self in
    let is_cut = cut_done l laws cfg units records at tail (T d0) (T d1) start c.cut.ensures.torn c.in_ok-cut.ensures.cut in
    let out = write_done l laws cfg units records at tail (T d1) (T d2) is_cut c.write.ensures.torn c.in_ok-write.ensures.written in
    let mark = closed_mark (length units) (at + length tail) in
    let d3 = c.sync.new.self in
    let marked = synced l laws cfg units records (MarkOut mark) true (d.moment d2) (T d2) (T d3) tt
    (all_past d g.met.D.TakeDisk.past d2 Essence) out c.in_ok-sync.ensures.synced in
    marked
