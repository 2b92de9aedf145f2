use Rattle.std.proofs.Common.{◌∙◌, ℕ, ℤ, ◌<◌, ◌+◌, ◌*◌, ◌^◌, ◌+ℤ◌, ap₂, w32, lit<}
use Rattle.std.proofs.lemmas.Int.{to_z-of_z}
use Rattle.whole_transform.specs.Sums.{at}
use Rattle.whole_transform.specs.Transform.{basis}
use Rattle.whole_transform.proofs.SumLemmas.{sum_of_four}
use Rattle.whole_transform.proofs.WordLemmas.{kept, small_fits}
use Rattle.whole_transform.proofs.narrow.even_part.Goals as goal

pub returns-clause-sums : goal.returns-clause-sums
returns-clause-sums c =
    let value = λ (k : ℕ) (p : k < 8). to_z-of_z w32 (at c.args.x k) (small_fits w32 (at c.args.x k) (2 ^ 15) (lit< tt) (c.requires.values k p)) in
    let start = kept w32 c.args.start (2 ^ 23 + 2 ^ 13) (lit< tt) c.requires.start in
    λ j lt. c.inverse_even.ensures.sums j lt
    ∙ ap₂ (λ (s t : ℤ). s +ℤ t) start
    (sum_of_four (λ k. basis (2 * k) j) _ (λ k. at c.args.x (2 * k)) (value 0 (lit< tt)) (value 2 (lit< tt)) (value 4 (lit< tt)) (value 6 (lit< tt)))
