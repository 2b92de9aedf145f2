use Rattle.std.proofs.Common.{◌^◌, w32, lit<}
use Rattle.std.proofs.lemmas.Int.{to_z-of_z}
use Rattle.whole_transform.proofs.WordLemmas.{products_of}
use Rattle.whole_transform.proofs.narrow.two_products.Goals as goal

pub overflow_add-result : goal.overflow_add-result
overflow_add-result c =
    let p = c.ranges.p in let a = c.ranges.a in let q = c.ranges.q in let b = c.ranges.b in
    let both = products_of w32 (2 ^ 15) c.args.p c.args.a c.args.q c.args.b (lit< tt) c.requires.first c.requires.second in
    let first_fits = both.first_fits in let second_fits = both.second_fits in
    simp to_z-of_z both.sum_fits

pub returns-clause-value : goal.returns-clause-value
returns-clause-value c =
    let p = c.ranges.p in let a = c.ranges.a in let q = c.ranges.q in let b = c.ranges.b in
    let both = products_of w32 (2 ^ 15) c.args.p c.args.a c.args.q c.args.b (lit< tt) c.requires.first c.requires.second in
    let first_fits = both.first_fits in let second_fits = both.second_fits in let sum_fits = both.sum_fits in
    simp to_z-of_z

pub returns-clause-small : goal.returns-clause-small
returns-clause-small c =
    let both = products_of w32 (2 ^ 15) c.args.p c.args.a c.args.q c.args.b (lit< tt) c.requires.first c.requires.second in
    rw (returns-clause-value c) both.small
