use Rattle.std.proofs.Common.{◌∙◌, ◌*◌, ◌^◌, ℕ, ◌*ℤ◌, FitsSigned, w32, lit<}
use Rattle.std.proofs.lemmas.Int.{to_z-of_z}
use Rattle.whole_transform.specs.Sums.{at, sum_to}
use Rattle.whole_transform.specs.Transform.{basis, turn, cosine}
use Rattle.whole_transform.proofs.EachLemmas.{below_four}
use Rattle.whole_transform.proofs.SumLemmas.{sum_by_pairs}
use Rattle.whole_transform.proofs.WordLemmas.{small_fits, kept_small}
use Rattle.whole_transform.proofs.narrow.odd_half.Goals as goal

pub returns-clause-sums : goal.returns-clause-sums
unfolding sum_to basis turn cosine
returns-clause-sums c =
    let at_0 = small_fits w32 (at c.args.x 0) (2 ^ 15) (lit< tt) (c.requires 0 (lit< tt)) in
    let at_1 = small_fits w32 (at c.args.x 1) (2 ^ 15) (lit< tt) (c.requires 1 (lit< tt)) in
    let at_2 = small_fits w32 (at c.args.x 2) (2 ^ 15) (lit< tt) (c.requires 2 (lit< tt)) in
    let at_3 = small_fits w32 (at c.args.x 3) (2 ^ 15) (lit< tt) (c.requires 3 (lit< tt)) in
    let first_fits : FitsSigned w32 c.four_products.result = record { sfits = c.four_products.type_inv } in
    let third_fits : FitsSigned w32 c.four_products-2.result = record { sfits = c.four_products-2.type_inv } in
    let fifth_fits : FitsSigned w32 c.four_products-3.result = record { sfits = c.four_products-3.type_inv } in
    let seventh_fits : FitsSigned w32 c.four_products-4.result = record { sfits = c.four_products-4.type_inv } in
    below_four _
    (to_z-of_z w32 c.four_products.result first_fits ∙ simp to_z-of_z at c.four_products.ensures.value ∙ sum_by_pairs (λ (j : ℕ). basis 1 j *ℤ at c.args.x j))
    (to_z-of_z w32 c.four_products-2.result third_fits ∙ simp to_z-of_z at c.four_products-2.ensures.value ∙ sum_by_pairs (λ (j : ℕ). basis 3 j *ℤ at c.args.x j))
    (to_z-of_z w32 c.four_products-3.result fifth_fits ∙ simp to_z-of_z at c.four_products-3.ensures.value ∙ sum_by_pairs (λ (j : ℕ). basis 5 j *ℤ at c.args.x j))
    (to_z-of_z w32 c.four_products-4.result seventh_fits ∙ simp to_z-of_z at c.four_products-4.ensures.value ∙ sum_by_pairs (λ (j : ℕ). basis 7 j *ℤ at c.args.x j))

pub returns-clause-small : goal.returns-clause-small
returns-clause-small c = below_four _
    (kept_small w32 c.four_products.result (4 * (8035 * 2 ^ 15)) (lit< tt) c.four_products.ensures.small)
    (kept_small w32 c.four_products-2.result (4 * (8035 * 2 ^ 15)) (lit< tt) c.four_products-2.ensures.small)
    (kept_small w32 c.four_products-3.result (4 * (8035 * 2 ^ 15)) (lit< tt) c.four_products-3.ensures.small)
    (kept_small w32 c.four_products-4.result (4 * (8035 * 2 ^ 15)) (lit< tt) c.four_products-4.ensures.small)
