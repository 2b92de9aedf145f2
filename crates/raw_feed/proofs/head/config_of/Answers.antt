use Rattle.std.proofs.Common.{◌≡◌, ◌∙◌, drop, inr, arith}
use Rattle.std.proofs.lemmas.List.{take_all, length-drop}
use Rattle.rec_bytes.specs.Views.{view}
use Rattle.raw_feed.proofs.HeadLemmas.{IsHead-read, BreaksConfigAt-read}
use Rattle.raw_feed.proofs.head.config_of.Goals as goal

pub returns-in-Ok-clause-head : goal.returns-in-Ok-clause-head
returns-in-Ok-clause-head c =
    let rest : c.copy_from_slice.new.self ≡ drop 8 c.args.head.now =
    c.copy_from_slice.ensures.after ∙ take_all 64 (drop 8 c.args.head.now) (omega (arith, length-drop 8 c.args.head.now, c.told-head)) in
    IsHead-read c.args.kind c.args.head.now c.copy_from_slice.new.self c.loop-at.at (view c.in-Ok.config) c.loop-at-test.false (omega arith)
    c.loop-at.invariant rest c.in-Ok.ensures.spelled

pub returns-in-Err-clause-refused : goal.returns-in-Err-clause-refused
returns-in-Err-clause-refused c =
    let rest : c.copy_from_slice.new.self ≡ drop 8 c.args.head.now =
    c.copy_from_slice.ensures.after ∙ take_all 64 (drop 8 c.args.head.now) (omega (arith, length-drop 8 c.args.head.now, c.told-head)) in
    inr (BreaksConfigAt-read c.args.kind c.args.head.now c.copy_from_slice.new.self c.loop-at.at c.in-Err.at c.loop-at-test.false (omega arith)
    c.loop-at.invariant rest c.in-Err.ensures.refused)
