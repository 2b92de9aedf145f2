use Rattle.std.proofs.Common.{◌<◌, ◌/◌, ◌^◌, arith, rules, refl, w8, w64, FitsSigned}
use Rattle.std.proofs.lemmas.Int.{to_z-of_z}
use Rattle.prores_codes.specs.Heads.{IsLevelRow}
use Rattle.slice_parts.proofs.HeadLemmas.{head_level_reads}
use Rattle.slice_parts.proofs.symbols.head_level.Goals as goal

pub returns-in-Ok-clause-read : goal.returns-in-Ok-clause-read
returns-in-Ok-clause-read c = λ before of_row.
    let head = c.level-head.result in
    let small : c.level-head.result.size < 64 = omega (arith, c.if-head-ge64.false) in
    let row : IsLevelRow before c.from.result = rw c.from.ensures of_row in
    let fits : FitsSigned w64 c.from-in-Ok.result = search rules in
    let few : FitsSigned w8 c.level-head.result.level = search rules in
    let e = simp to_z-of_z at c.from-in-Ok.ensures in
    let same = c.peek.ensures.first head.size (omega (arith, c.level-head.ensures.most small)) (c.in-Ok.ensures.accepted.0 refl) in
    simp to_z-of_z (rw e (head_level_reads c.from.result (c.peek.result / 2 ^ 23) c.peek.result before head c.args.bits.now c.skip.new.self c.level-head.ensures small refl row same c.in-Ok.ensures.skipped))
