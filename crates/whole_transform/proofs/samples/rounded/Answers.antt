use Rattle.std.proofs.Common.{◌≡◌, ◌∙◌, ◌≤◌, ◌^◌, ℤ, pos, ◌+ℤ◌, ap, w32, w64, to_z, of_z, lit<, lit≤, arith}
use Rattle.std.specs.Int.RustNames.{unsigned_abs}
use Rattle.std.specs.Int.Signed.{shr_z}
use Rattle.std.proofs.lemmas.Int.{ints}
use Rattle.whole_transform.specs.Transform.{floored}
use Rattle.whole_transform.proofs.WordLemmas.{kept, sum_kept}
use Rattle.whole_transform.proofs.Rounding.{floored_is, floored_small}
use Rattle.whole_transform.proofs.samples.rounded.Goals as goal

pub returns-clause-value : goal.returns-clause-value
returns-clause-value c =
    let raised : ℤ = c.args.sum +ℤ pos (2 ^ 29) in
    let raised_small : unsigned_abs raised ≤ 2 ^ 54 = omega (arith, ints) in
    let small = floored_small raised raised_small in
    let same : shr_z (to_z w64 (of_z w64 (to_z w64 (of_z w64 c.args.sum) +ℤ pos (2 ^ 29)))) (2 ^ 30) ≡ floored raised (2 ^ 30) =
    ap (λ (z : ℤ). shr_z z (2 ^ 30)) (sum_kept w64 c.args.sum (pos (2 ^ 29)) (2 ^ 53) (lit< tt) c.requires (lit≤ tt)) ∙ floored_is raised (2 ^ 30) in
    ap (λ (z : ℤ). to_z w32 (of_z w32 (to_z w64 (of_z w64 z)))) same
    ∙ ap (λ (z : ℤ). to_z w32 (of_z w32 z)) (kept w64 (floored raised (2 ^ 30)) (2 ^ 25) (lit< tt) small)
    ∙ kept w32 (floored raised (2 ^ 30)) (2 ^ 25) (lit< tt) small
