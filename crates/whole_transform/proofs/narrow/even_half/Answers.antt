use Rattle.std.proofs.Common.{◌∙◌, ◌+◌, ◌<◌, ℕ, arith}
use Rattle.whole_transform.specs.Sums.{at}
use Rattle.whole_transform.proofs.Halves.{even_sums}
use Rattle.whole_transform.proofs.narrow.even_half.Goals as goal

pub returns-clause-sums : goal.returns-clause-sums
returns-clause-sums c = even_sums (at c.args.x) (at c.widened.result) (at c.even_products.result)
    (λ (k : ℕ) (lt : k < 2). c.widened.ensures.same k (omega arith) ∙ c.folded.ensures.sums k lt)
    (λ (k : ℕ) (lt : k < 2). c.widened.ensures.same (2 + k) (omega arith) ∙ c.folded.ensures.differences k lt)
    c.even_products.ensures.fourth c.even_products.ensures.second
