use Rattle.std.proofs.Common.{drop, arith}
use Rattle.klv.proofs.NumberLemmas.{AreBytes}
use Rattle.klv.proofs.ReadLemmas.{head_stands, front_bytes, front_told}
use Rattle.klv.proofs.RefusalLemmas.{head_refused}
use Rattle.klv.proofs.head.read_head.Goals as goal

pub returns-in-Ok-clause-head : goal.returns-in-Ok-clause-head
returns-in-Ok-clause-head c = λ bytes f.
    let are : AreBytes c.args.front.now = λ k. let small = c.type_inv.front k in omega arith in
    head_stands bytes c.args.at c.args.left c.in-Ok.head (front_bytes (drop c.args.at bytes) c.args.front.now are f.front_is) f.left_is
    (front_told bytes c.args.front.now c.args.at c.args.left _ are f c.in-Ok.ensures.seen)

pub returns-in-Err-clause-refused : goal.returns-in-Err-clause-refused
returns-in-Err-clause-refused c = λ bytes f.
    let are : AreBytes c.args.front.now = λ k. let small = c.type_inv.front k in omega arith in
    head_refused bytes c.args.at c.args.left c.in-Err.fault (front_bytes (drop c.args.at bytes) c.args.front.now are f.front_is) f.left_is
    (front_told bytes c.args.front.now c.args.at c.args.left _ are f c.in-Err.ensures.seen)
