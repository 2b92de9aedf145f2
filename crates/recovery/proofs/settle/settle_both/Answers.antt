use Rattle.take_disk.specs.declared.area.Area.TheVariants.{Essence, Commits}
use Rattle.commit_phases.specs.laws.Runs.{all_past, begun}
use Rattle.recovery.proofs.SettleLemmas.{syncs, same_settles, settles_more, both_kept, settles_then, run_rests, Back}
use Rattle.recovery.proofs.settle.settle_both.Goals as goal

pub returns-in_err-sync-2-clause-rests : goal.returns-in_err-sync-2-clause-rests
returns-in_err-sync-2-clause-rests g c =
    let d = g.D.TakeDisk in let crash = g.met.D.TakeDisk.crash in
    let first = c.args.disk.now in let mid = c.sync.new.self in let new = c.sync-2.new.self in
    let one = syncs Essence (d.moment first) (d.told first) (d.told mid) c.in_ok-sync.ensures.synced in
    let two = same_settles (d.told mid) (d.told new) c.in_err-sync-2.ensures.unchanged in
    let run = settles_then d crash first first mid (begun d (Back d crash first) first) one one c.sync.ensures.time in
    run_rests d crash first new
    (settles_then d crash first mid new run two (settles_more (d.told first) (d.told mid) (d.told new) one two) c.sync-2.ensures.time)

pub returns-clause-kept : goal.returns-clause-kept
returns-clause-kept g c =
    let d = g.D.TakeDisk in let past = g.met.D.TakeDisk.past in
    let first = c.args.disk.now in let mid = c.sync.new.self in let new = c.sync-2.new.self in
    both_kept (d.told first) (d.told mid) (d.told new) (d.moment first) (d.moment mid) (all_past d past first Essence) (all_past d past mid Commits)
    c.in_ok-sync.ensures.synced c.in_ok-sync-2.ensures.synced

pub returns-clause-rests : goal.returns-clause-rests
returns-clause-rests g c =
    let d = g.D.TakeDisk in let crash = g.met.D.TakeDisk.crash in
    let first = c.args.disk.now in let mid = c.sync.new.self in let new = c.sync-2.new.self in
    let one = syncs Essence (d.moment first) (d.told first) (d.told mid) c.in_ok-sync.ensures.synced in
    let two = syncs Commits (d.moment mid) (d.told mid) (d.told new) c.in_ok-sync-2.ensures.synced in
    let run = settles_then d crash first first mid (begun d (Back d crash first) first) one one c.sync.ensures.time in
    run_rests d crash first new
    (settles_then d crash first mid new run two (settles_more (d.told first) (d.told mid) (d.told new) one two) c.sync-2.ensures.time)
