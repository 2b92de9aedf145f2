use Rattle.std.proofs.Common.{◌∙◌, ◌*◌, ◌^◌, FitsSigned, w32, lit<, arith}
use Rattle.std.proofs.lemmas.Int.{ints, to_z-of_z}
use Rattle.whole_transform.specs.Sums.{at}
use Rattle.whole_transform.specs.Transform.{basis, turn, cosine}
use Rattle.whole_transform.proofs.EachLemmas.{below_two, below_four}
use Rattle.whole_transform.proofs.WordLemmas.{small_fits, kept, kept_small}
use Rattle.whole_transform.proofs.narrow.even_products.Goals as goal

pub returns-clause-fourth : goal.returns-clause-fourth
unfolding basis turn cosine
returns-clause-fourth c =
    let at_0 = small_fits w32 (at c.args.x 0) (2 ^ 15) (lit< tt) (c.requires 0 (lit< tt)) in
    let at_1 = small_fits w32 (at c.args.x 1) (2 ^ 15) (lit< tt) (c.requires 1 (lit< tt)) in
    let sum = simp to_z-of_z at c.middle_products-sum.ensures.sum in
    let difference = simp to_z-of_z at c.middle_products-sum.ensures.difference in
    below_two _
    (kept w32 c.middle_products-sum.result.0 (2 * (8035 * 2 ^ 15)) (lit< tt) c.middle_products-sum.ensures.small.0 ∙ sum)
    (kept w32 c.middle_products-sum.result.1 (2 * (8035 * 2 ^ 15)) (lit< tt) c.middle_products-sum.ensures.small.1 ∙ omega (arith, ints, difference))

pub returns-clause-second : goal.returns-clause-second
unfolding basis turn cosine
returns-clause-second c =
    let at_2 = small_fits w32 (at c.args.x 2) (2 ^ 15) (lit< tt) (c.requires 2 (lit< tt)) in
    let at_3 = small_fits w32 (at c.args.x 3) (2 ^ 15) (lit< tt) (c.requires 3 (lit< tt)) in
    let second_fits : FitsSigned w32 c.two_products.result = record { sfits = c.two_products.type_inv } in
    let sixth_fits : FitsSigned w32 c.two_products-2.result = record { sfits = c.two_products-2.type_inv } in
    below_two _
    (to_z-of_z w32 c.two_products.result second_fits ∙ simp to_z-of_z at c.two_products.ensures.value)
    (to_z-of_z w32 c.two_products-2.result sixth_fits ∙ simp to_z-of_z at c.two_products-2.ensures.value)

pub returns-clause-small : goal.returns-clause-small
returns-clause-small c = below_four _
    (kept_small w32 c.middle_products-sum.result.0 (2 * (8035 * 2 ^ 15)) (lit< tt) c.middle_products-sum.ensures.small.0)
    (kept_small w32 c.two_products.result (2 * (8035 * 2 ^ 15)) (lit< tt) c.two_products.ensures.small)
    (kept_small w32 c.middle_products-sum.result.1 (2 * (8035 * 2 ^ 15)) (lit< tt) c.middle_products-sum.ensures.small.1)
    (kept_small w32 c.two_products-2.result (2 * (8035 * 2 ^ 15)) (lit< tt) c.two_products-2.ensures.small)
