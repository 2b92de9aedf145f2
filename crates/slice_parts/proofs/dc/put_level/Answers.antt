use Rattle.std.proofs.Common.{◌≡◌, ◌-ℤ◌, ◌-◌, w64, FitsSigned, rules}
use Rattle.std.proofs.lemmas.Int.{to_z-of_z}
use Rattle.std.proofs.lemmas.Result.{err_from_is_err_and}
use Rattle.slice_parts.specs.Component.{level_at, signed_levels}
use Rattle.slice_parts.proofs.dc.put_level.Goals as goal

pub returns-clause-accepted : goal.returns-clause-accepted
returns-clause-accepted c =
    let fd : FitsSigned w64 c.args.difference = search rules in
    let fn : FitsSigned w64 c.number_level-next.result = search rules in
    let fl : FitsSigned w64 c.number_level-level.result = search rules in
    let d = simp to_z-of_z at c.difference_code-code.ensures.code in
    let n = simp to_z-of_z at c.number-n.ensures.number in
    let e : c.number_level-next.result ≡ level_at (signed_levels c.args.numbers.now) c.args.k = c.number_level-next.ensures.level in
    let g : c.number_level-level.result ≡ level_at (signed_levels c.args.numbers.now) (c.args.k - 1) = c.number_level-level.ensures.level in
    λ s by. c.in_ok-write.ensures.accepted s (rw (d, n, e, g) by)

pub returns-clause-spelled : goal.returns-clause-spelled
returns-clause-spelled c =
    let fd : FitsSigned w64 c.args.difference = search rules in
    let fn : FitsSigned w64 c.number_level-next.result = search rules in
    let fl : FitsSigned w64 c.number_level-level.result = search rules in
    let d = simp to_z-of_z at c.difference_code-code.ensures.code in
    let n = simp to_z-of_z at c.number-n.ensures.number in
    let e : c.number_level-next.result ≡ level_at (signed_levels c.args.numbers.now) c.args.k = c.number_level-next.ensures.level in
    let g : c.number_level-level.result ≡ level_at (signed_levels c.args.numbers.now) (c.args.k - 1) = c.number_level-level.ensures.level in
    λ s by. c.in_ok-write.ensures.spelled s (rw (d, n, e, g) by)

pub returns-in_err-write-clause-accepted : goal.returns-in_err-write-clause-accepted
returns-in_err-write-clause-accepted c =
    let fd : FitsSigned w64 c.args.difference = search rules in
    let fn : FitsSigned w64 c.number_level-next.result = search rules in
    let fl : FitsSigned w64 c.number_level-level.result = search rules in
    let d = simp to_z-of_z at c.difference_code-code.ensures.code in
    let n = simp to_z-of_z at c.number-n.ensures.number in
    let e : c.number_level-next.result ≡ level_at (signed_levels c.args.numbers.now) c.args.k = c.number_level-next.ensures.level in
    let g : c.number_level-level.result ≡ level_at (signed_levels c.args.numbers.now) (c.args.k - 1) = c.number_level-level.ensures.level in
    let p = err_from_is_err_and c.from_residual.result c.from_residual.ensures.1 in
    λ s by. rw p.1 (c.in_err-write.ensures.accepted s (rw (d, n, e, g) by))

pub returns-clause-difference : goal.returns-clause-difference
returns-clause-difference c =
    let fn : FitsSigned w64 c.number_level-next.result = search rules in
    let fl : FitsSigned w64 c.number_level-level.result = search rules in
    let fs : FitsSigned w64 (c.number_level-next.result -ℤ c.number_level-level.result) = search rules in
    let e : c.number_level-next.result ≡ level_at (signed_levels c.args.numbers.now) c.args.k = c.number_level-next.ensures.level in
    let g : c.number_level-level.result ≡ level_at (signed_levels c.args.numbers.now) (c.args.k - 1) = c.number_level-level.ensures.level in
    rw (← e, ← g) (simp to_z-of_z)
