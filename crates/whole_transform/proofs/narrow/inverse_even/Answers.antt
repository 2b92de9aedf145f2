use Rattle.std.proofs.Common.{◌∙◌, ℕ, ℤ, ◌<◌, ◌+◌, ◌*◌, ◌+ℤ◌, ◌*ℤ◌, ap, w32, ◌^◌, lit<, to_z, of_z}
use Rattle.std.proofs.lemmas.Int.{to_z-of_z}
use Rattle.whole_transform.specs.Sums.{at, sum_to}
use Rattle.whole_transform.specs.Transform.{basis}
use Rattle.whole_transform.proofs.WordLemmas.{kept, small_fits}
use Rattle.whole_transform.proofs.Halves.{even_columns_from}
use Rattle.whole_transform.proofs.narrow.inverse_even.Goals as goal

pub returns-clause-sums : goal.returns-clause-sums
returns-clause-sums c =
    let value = λ (k : ℕ) (p : k < 4). to_z-of_z w32 (at c.args.x k) (small_fits w32 (at c.args.x k) (2 ^ 15) (lit< tt) (c.requires.values k p)) in
    let start = kept w32 c.args.start (2 ^ 23 + 2 ^ 13) (lit< tt) c.requires.start in
    λ j lt. even_columns_from (to_z w32 (of_z w32 c.args.start)) (at c.args.x) (at c.even_products.result) (at c.with_start.result) (at c.crossed.result) _ _ _ _
    (value 0 (lit< tt)) (value 2 (lit< tt)) (value 1 (lit< tt)) (value 3 (lit< tt))
    c.even_products.ensures.fourth c.even_products.ensures.second c.with_start.ensures.begun c.with_start.ensures.same c.crossed.ensures.outer c.crossed.ensures.inner j lt
    ∙ ap (λ (s : ℤ). s +ℤ sum_to 4 (λ k. basis (2 * k) j *ℤ at c.args.x k)) start
