use Rattle.std.proofs.Common.{sym, ◌∙◌}
use Rattle.commit_phases.specs.laws.Told.{on_ok}
use Rattle.take_disk.specs.laws.TimeLaws.{elapsed_more}
use Rattle.recovery.proofs.StayLemmas.{rests_safe, rests_settled, closes_safe, stays_one, then_same, found_ready, found_closed}
use Rattle.recovery.proofs.recovering.recover.Goals as goal

pub returns-then-is_err-clause-safe : goal.returns-then-is_err-clause-safe
returns-then-is_err-clause-safe g c =
    let l = g.L.TakeLayout in let d = g.D.TakeDisk in let T = d.told in
    let d0 = c.args.disk.now in let d1 = c.settle_both.new.disk in
    rests_safe l d d0 d1 c.settle_both.ensures.rests

pub returns-then-is_err-clause-one : goal.returns-then-is_err-clause-one
returns-then-is_err-clause-one g c =
    let l = g.L.TakeLayout in let d = g.D.TakeDisk in let T = d.told in
    let d0 = c.args.disk.now in let d1 = c.settle_both.new.disk in
    stays_one l d d0 d1 (rests_safe l d d0 d1 c.settle_both.ensures.rests)

pub returns-in_err-found-clause-safe : goal.returns-in_err-found-clause-safe
returns-in_err-found-clause-safe g c =
    let l = g.L.TakeLayout in let d = g.D.TakeDisk in let T = d.told in
    let d0 = c.args.disk.now in let d1 = c.settle_both.new.disk in
    let d2 = c.judge.new.disk in
    let rests = rests_settled l d d0 d1 d2 c.settle_both.ensures.settles c.settle_both.ensures.time.later c.settle_both.ensures.rests c.judge.ensures.rests in
    rests_safe l d d0 d2 rests

pub returns-in_err-found-clause-one : goal.returns-in_err-found-clause-one
returns-in_err-found-clause-one g c =
    let l = g.L.TakeLayout in let d = g.D.TakeDisk in let T = d.told in
    let d0 = c.args.disk.now in let d1 = c.settle_both.new.disk in
    let d2 = c.judge.new.disk in
    let rests = rests_settled l d d0 d1 d2 c.settle_both.ensures.settles c.settle_both.ensures.time.later c.settle_both.ensures.rests c.judge.ensures.rests in
    stays_one l d d0 d2 (rests_safe l d d0 d2 rests)

pub returns-then-found-clause-recovered : goal.returns-then-found-clause-recovered
returns-then-found-clause-recovered g c =
    let l = g.L.TakeLayout in let d = g.D.TakeDisk in let T = d.told in
    let d0 = c.args.disk.now in let d1 = c.settle_both.new.disk in
    let kept = on_ok c.settle_both.result _ c.settle_both.ensures.kept (sym c.is_err.ensures.value ∙ c.if-is_err.false) in
    let found = c.in_ok-found.found in
    found_closed l found.file found.gate found.mark (T d0) (T d1)
    (T c.judge.new.disk) c.if-found.true kept c.in_ok-found.ensures.found c.judge.ensures.stays.same

pub returns-then-found-clause-safe : goal.returns-then-found-clause-safe
returns-then-found-clause-safe g c =
    let l = g.L.TakeLayout in let d = g.D.TakeDisk in let T = d.told in
    let d0 = c.args.disk.now in let d1 = c.settle_both.new.disk in
    let d2 = c.judge.new.disk in
    let rests = rests_settled l d d0 d1 d2 c.settle_both.ensures.settles c.settle_both.ensures.time.later c.settle_both.ensures.rests c.judge.ensures.rests in
    rests_safe l d d0 d2 rests

pub returns-then-found-clause-one : goal.returns-then-found-clause-one
returns-then-found-clause-one g c =
    let l = g.L.TakeLayout in let d = g.D.TakeDisk in let T = d.told in
    let d0 = c.args.disk.now in let d1 = c.settle_both.new.disk in
    let d2 = c.judge.new.disk in
    let rests = rests_settled l d d0 d1 d2 c.settle_both.ensures.settles c.settle_both.ensures.time.later c.settle_both.ensures.rests c.judge.ensures.rests in
    stays_one l d d0 d2 (rests_safe l d d0 d2 rests)

pub returns-then-found-clause-time : goal.returns-then-found-clause-time
returns-then-found-clause-time g c =
    elapsed_more _ _ _ _ _ _ _ _ _ c.settle_both.ensures.time c.judge.ensures.time

pub returns-clause-safe : goal.returns-clause-safe
returns-clause-safe g c =
    let l = g.L.TakeLayout in let d = g.D.TakeDisk in let T = d.told in
    let d0 = c.args.disk.now in let d1 = c.settle_both.new.disk in
    let d2 = c.judge.new.disk in
    let rests = rests_settled l d d0 d1 d2 c.settle_both.ensures.settles c.settle_both.ensures.time.later c.settle_both.ensures.rests c.judge.ensures.rests in
    let kept = on_ok c.settle_both.result _ c.settle_both.ensures.kept (sym c.is_err.ensures.value ∙ c.if-is_err.false) in
    let found = c.in_ok-found.found in
    let d3 = c.close.new.disk in
    let steps = then_same (T d0) (T d1) (T d2) _ c.settle_both.ensures.settles c.judge.ensures.stays.same in
    let later = elapsed_more _ _ _ _ _ _ _ _ _ c.settle_both.ensures.time c.judge.ensures.time in
    let ready = found_ready l found.file found.gate found.mark (T d0) (T d1) (T d2) kept c.in_ok-found.ensures.found c.judge.ensures.stays.same in
    let safe = closes_safe l d c.lays_out.ensures found.file found.gate found.mark d0 d2 d3 steps later.later rests ready c.close.ensures.safe in
    safe

pub returns-clause-one : goal.returns-clause-one
returns-clause-one g c =
    let l = g.L.TakeLayout in let d = g.D.TakeDisk in let T = d.told in
    let d0 = c.args.disk.now in let d1 = c.settle_both.new.disk in
    let d2 = c.judge.new.disk in
    let rests = rests_settled l d d0 d1 d2 c.settle_both.ensures.settles c.settle_both.ensures.time.later c.settle_both.ensures.rests c.judge.ensures.rests in
    let kept = on_ok c.settle_both.result _ c.settle_both.ensures.kept (sym c.is_err.ensures.value ∙ c.if-is_err.false) in
    let found = c.in_ok-found.found in
    let d3 = c.close.new.disk in
    let steps = then_same (T d0) (T d1) (T d2) _ c.settle_both.ensures.settles c.judge.ensures.stays.same in
    let later = elapsed_more _ _ _ _ _ _ _ _ _ c.settle_both.ensures.time c.judge.ensures.time in
    let ready = found_ready l found.file found.gate found.mark (T d0) (T d1) (T d2) kept c.in_ok-found.ensures.found c.judge.ensures.stays.same in
    let safe = closes_safe l d c.lays_out.ensures found.file found.gate found.mark d0 d2 d3 steps later.later rests ready c.close.ensures.safe in
    stays_one l d d0 d3 safe

pub returns-clause-time : goal.returns-clause-time
returns-clause-time g c =
    elapsed_more _ _ _ _ _ _ _ _ _ (elapsed_more _ _ _ _ _ _ _ _ _ c.settle_both.ensures.time c.judge.ensures.time) c.close.ensures.time
