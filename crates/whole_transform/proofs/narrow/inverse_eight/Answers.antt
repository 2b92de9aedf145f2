use Rattle.std.proofs.Common.{◌∙◌, sym, ◌+◌, ◌*◌, refl, arith}
use Rattle.std.proofs.lemmas.Int.{ints}
use Rattle.whole_transform.specs.Sums.{at}
use Rattle.whole_transform.proofs.Halves.{joined_halves, odd_turned}
use Rattle.whole_transform.proofs.narrow.inverse_eight.Goals as goal

pub returns : goal.returns
returns c =
    joined_halves (at c.args.x) (λ k. at c.args.x (2 * k)) (λ k. at c.args.x (2 * k + 1)) (at c.even_part.result) (at c.odd_part.result) (at c.unmirrored.result)
    (λ k lt. refl) (λ k lt. refl) (λ j lt. let sum = c.even_part.ensures.sums j lt in omega (arith, ints))
    (λ j lt. c.odd_part.ensures.sums j lt ∙ sym (odd_turned (λ k. at c.args.x (2 * k + 1)) j lt)) c.unmirrored.ensures.first c.unmirrored.ensures.last
