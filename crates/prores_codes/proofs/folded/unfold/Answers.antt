use Rattle.std.proofs.Common.{◌≡◌, negsuc, ◌/◌, ap, ◌∙◌, arith, w32, to_z, of_z, ◌-ℤ◌}
use Rattle.std.proofs.lemmas.Int.{ints}
use Rattle.prores_codes.specs.Folded.{folded}
use Rattle.prores_codes.proofs.Signs.{unfolds_odd, only_odd}
use Rattle.prores_codes.proofs.folded.unfold.Goals as goal

pub returns-else-n-eq0-clause-folded : goal.returns-else-n-eq0-clause-folded
returns-else-n-eq0-clause-folded c =
    let is : to_z w32 (of_z w32 (negsuc 0 -ℤ to_z w32 (c.args.n / 2))) ≡ negsuc (c.args.n / 2) = omega (arith, ints) in
    ap folded is ∙ unfolds_odd c.args.n (omega (arith, c.if-n-eq0.false))

pub returns-else-n-eq0-clause-again : goal.returns-else-n-eq0-clause-again
returns-else-n-eq0-clause-again c =
    λ v e.
    let is : to_z w32 (of_z w32 (negsuc 0 -ℤ to_z w32 (c.args.n / 2))) ≡ negsuc (c.args.n / 2) = omega (arith, ints) in
    is ∙ only_odd c.args.n v (omega (arith, c.if-n-eq0.false)) e
