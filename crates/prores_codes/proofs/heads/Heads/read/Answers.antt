use Rattle.std.proofs.Common.{◌+◌, ◌/◌, ◌^◌, ◌≤◌, ℕ, refl, subst, arith}
use Rattle.prores_codes.specs.Heads.{IsRunHead, IsLevelHead}
use Rattle.prores_codes.proofs.HeadLemmas.{reads_pair}
use Rattle.prores_codes.proofs.heads.Heads.read.Goals as goal

pub returns-in-Ok-clause-read : goal.returns-in-Ok-clause-read
returns-in-Ok-clause-read c =
    λ run_before size_before at under.
    let one = c.run-one.result in
    let two = c.level-two.result in
    let word = c.peek-next.result in
    let most : one.size + two.size ≤ 32 = omega (arith, c.if-size-gt32.false) in
    let few : one.size ≤ 9 = c.run-one.ensures.most (omega (arith, most)) in
    let P : ℕ → Type 0 = λ row. IsRunHead row (word / 2 ^ 23) one in
    let Q : ℕ → Type 0 = λ row. IsLevelHead row c.behind.result two in
    let R : ℕ → Type 0 = λ nine. IsLevelHead c.args.level_row nine two in
    reads_pair run_before size_before c.args.run_row c.args.level_row word one two c.args.bits.now c.skip.new.self (subst P c.from.ensures c.run-one.ensures)
    (subst R (c.behind.ensures.value few) (subst Q c.from-2.ensures c.level-two.ensures)) at under most
    (c.peek-next.ensures.first (one.size + two.size) most (c.in-Ok.ensures.accepted.0 refl)) c.in-Ok.ensures.skipped
