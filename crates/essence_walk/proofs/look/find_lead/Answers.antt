use Rattle.std.proofs.Common.{arith, Some, ap, ◌∙◌, ◌+◌, ◌<◌, ◌^◌, length, drop}
use Rattle.rec_bytes.specs.Views.{view}
use Rattle.essence_walk.proofs.LookLemmas.{looks, found_is, more_is, not_broken}
use Rattle.essence_walk.proofs.look.find_lead.Goals as goal
use Rattle.essence_walk.proofs.look.find_lead.Goals.{else-unit_at-at-via-then-unit_at-at+else-unit_len-left, else-unit_at-at-via-else-unit_at-at}

pub returns-then-unit_len-left-clause-finds : goal.returns-then-unit_len-left-clause-finds
returns-then-unit_len-left-clause-finds g c = λ told is units unit rest long are eq room.
    let before = c.look.invariant in
    let held = c.in_ok-read_on.ensures.held told (before.stays.same ∙ is) (before.held told is) in
    let fits : c.args.at + c.args.lead_len < 2 ^ 64 = let small = c.requires.small in let lead = c.requires.lead in omega (arith, small, lead) in
    let seen = looks g.L.TakeLayout (view c.args.cfg.now) (drop c.args.at told.essence.reads) c.read_on.new.buffer c.look.need c.args.at c.args.lead_len
    c.walk.result held c.walk.ensures.whole c.walk.ensures.part fits units unit rest long are eq in
    ap Some (found_is c.args.at c.args.lead_len (length unit) c.in-Lead.is seen).1

pub returns-in-Lead-clause-finds : goal.returns-in-Lead-clause-finds
returns-in-Lead-clause-finds g c = λ told is units unit rest long are eq room.
    let before = c.look.invariant in
    let held = c.in_ok-read_on.ensures.held told (before.stays.same ∙ is) (before.held told is) in
    let fits : c.args.at + c.args.lead_len < 2 ^ 64 = let small = c.requires.small in let lead = c.requires.lead in omega (arith, small, lead) in
    let seen = looks g.L.TakeLayout (view c.args.cfg.now) (drop c.args.at told.essence.reads) c.read_on.new.buffer c.look.need c.args.at c.args.lead_len
    c.walk.result held c.walk.ensures.whole c.walk.ensures.part fits units unit rest long are eq in
    let found = found_is c.args.at c.args.lead_len (length unit) c.in-Lead.is seen in
    elim c.else-unit_at-at.branch [
      | else-unit_at-at-via-then-unit_at-at+else-unit_len-left w ↦
          let past = w.if-unit_len-left.false in let same = found.1 in absurd (omega (arith, past, same, room))
      | else-unit_at-at-via-else-unit_at-at w ↦ absurd (w.if-unit_at-at.false found.0)
    ]

pub returns-then-more-left-clause-finds : goal.returns-then-more-left-clause-finds
returns-then-more-left-clause-finds g c = λ told is units unit rest long are eq room.
    let before = c.look.invariant in
    let held = c.in_ok-read_on.ensures.held told (before.stays.same ∙ is) (before.held told is) in
    let fits : c.args.at + c.args.lead_len < 2 ^ 64 = let small = c.requires.small in let lead = c.requires.lead in omega (arith, small, lead) in
    let seen = looks g.L.TakeLayout (view c.args.cfg.now) (drop c.args.at told.essence.reads) c.read_on.new.buffer c.look.need c.args.at c.args.lead_len
    c.walk.result held c.walk.ensures.whole c.walk.ensures.part fits units unit rest long are eq in
    let most = more_is c.args.at c.args.lead_len (length unit) c.in-More.is seen in
    let past = c.if-more-left.true in
    absurd (omega (arith, most, past, room))

pub returns-in-Broken-clause-finds : goal.returns-in-Broken-clause-finds
returns-in-Broken-clause-finds g c = λ told is units unit rest long are eq room.
    let before = c.look.invariant in
    let held = c.in_ok-read_on.ensures.held told (before.stays.same ∙ is) (before.held told is) in
    let fits : c.args.at + c.args.lead_len < 2 ^ 64 = let small = c.requires.small in let lead = c.requires.lead in omega (arith, small, lead) in
    let seen = looks g.L.TakeLayout (view c.args.cfg.now) (drop c.args.at told.essence.reads) c.read_on.new.buffer c.look.need c.args.at c.args.lead_len
    c.walk.result held c.walk.ensures.whole c.walk.ensures.part fits units unit rest long are eq in
    absurd (not_broken c.args.at c.args.lead_len (length unit) c.in-Broken.is seen)
