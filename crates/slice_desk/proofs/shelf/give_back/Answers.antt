use Rattle.std.proofs.Common.{arith}
use Rattle.slice_desk.proofs.CountLemmas.{count_some, count_empty}
use Rattle.slice_desk.proofs.shelf.give_back.Goals as goal

pub returns-in-Some : goal.returns-in-Some
returns-in-Some g c =
    let one = count_some c.args.kept c.in-Some.done c.in-Some.is in
    record { more_free = omega (arith, one, c.give.ensures.given.more_free); fewer_live = omega (arith, one, c.give.ensures.given.fewer_live) }

pub returns-in-None : goal.returns-in-None
returns-in-None g c =
    let none = count_empty c.args.kept c.in-None.is in record { more_free = omega (arith, none); fewer_live = omega (arith, none) }
