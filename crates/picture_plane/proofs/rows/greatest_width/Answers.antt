use Rattle.std.proofs.Common.{arith, ◌<◌}
use Rattle.std.proofs.lemmas.Nat.{one_shl}
use Rattle.std.proofs.Math.Nat.{pow-le-pow_right}
use Rattle.picture_plane.proofs.rows.greatest_width.Goals as goal

pub returns-clause-most : goal.returns-clause-most
returns-clause-most c =
    let log2_small : c.args.log2 < 8 = omega arith in
    let shifted = one_shl c.args.log2 8 log2_small in
    let within = pow-le-pow_right {n = 2} (omega arith) {i = c.args.log2} {j = 3} (omega arith) in
    omega (arith, shifted, within)
