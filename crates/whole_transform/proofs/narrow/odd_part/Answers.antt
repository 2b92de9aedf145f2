use Rattle.std.proofs.Common.{◌∙◌, ℕ, ◌<◌, ◌+◌, ◌*◌, ◌^◌, w32, lit<}
use Rattle.std.proofs.lemmas.Int.{to_z-of_z}
use Rattle.whole_transform.specs.Sums.{at}
use Rattle.whole_transform.specs.Transform.{basis}
use Rattle.whole_transform.proofs.Halves.{odd_turned}
use Rattle.whole_transform.proofs.SumLemmas.{sum_of_four}
use Rattle.whole_transform.proofs.WordLemmas.{small_fits}
use Rattle.whole_transform.proofs.narrow.odd_part.Goals as goal

pub returns-clause-sums : goal.returns-clause-sums
returns-clause-sums c =
    let value = λ (k : ℕ) (p : k < 8). to_z-of_z w32 (at c.args.x k) (small_fits w32 (at c.args.x k) (2 ^ 15) (lit< tt) (c.requires k p)) in
    λ j lt. c.odd_half.ensures.sums j lt
    ∙ sum_of_four (basis (2 * j + 1)) _ (λ k. at c.args.x (2 * k + 1)) (value 1 (lit< tt)) (value 3 (lit< tt)) (value 5 (lit< tt)) (value 7 (lit< tt))
    ∙ odd_turned (λ k. at c.args.x (2 * k + 1)) j lt
