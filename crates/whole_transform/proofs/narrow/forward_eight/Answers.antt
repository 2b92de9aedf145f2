use Rattle.std.proofs.Common.{◌∙◌, ℕ, ◌<◌, ◌*◌, ◌^◌, w32, lit<}
use Rattle.std.proofs.lemmas.Int.{to_z-of_z}
use Rattle.whole_transform.specs.Sums.{at}
use Rattle.whole_transform.proofs.EachLemmas.{below_eight}
use Rattle.whole_transform.proofs.WordLemmas.{small_fits}
use Rattle.whole_transform.proofs.Halves.{mirrored_even, mirrored_odd}
use Rattle.whole_transform.proofs.narrow.forward_eight.Goals as goal

pub returns : goal.returns
returns c =
    let even = λ (k : ℕ) (p : k < 4).
    to_z-of_z w32 (at c.even_half.result k) (small_fits w32 (at c.even_half.result k) (2 * (8035 * 2 ^ 15)) (lit< tt) (c.even_half.ensures.small k p))
    ∙ c.even_half.ensures.sums k p ∙ mirrored_even (at c.args.x) (at c.mirrored.result.0) c.mirrored.ensures.sums k p in
    let odd = λ (k : ℕ) (p : k < 4).
    to_z-of_z w32 (at c.odd_half.result k) (small_fits w32 (at c.odd_half.result k) (4 * (8035 * 2 ^ 15)) (lit< tt) (c.odd_half.ensures.small k p))
    ∙ c.odd_half.ensures.sums k p ∙ mirrored_odd (at c.args.x) (at c.widened.result) (λ j q. c.widened.ensures.same j q ∙ c.mirrored.ensures.differences j q) k p in
    below_eight _ (even 0 (lit< tt)) (odd 0 (lit< tt)) (even 1 (lit< tt)) (odd 1 (lit< tt)) (even 2 (lit< tt)) (odd 2 (lit< tt)) (even 3 (lit< tt)) (odd 3 (lit< tt))
