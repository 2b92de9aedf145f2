use Rattle.std.proofs.Common.{◌∙◌, ℕ, ◌<◌, pos, ap, sym, lit<}
use Rattle.whole_transform.specs.Sums.{at}
use Rattle.whole_transform.specs.Transform.{basis, sample}
use Rattle.whole_transform.proofs.EachLemmas.{below_eight}
use Rattle.whole_transform.proofs.SumLemmas.{sum_split}
use Rattle.whole_transform.proofs.RowLemmas.{high_small, low_small, mirrored_are}
use Rattle.whole_transform.proofs.product_lanes.samples_of_sums.Goals as goal

pub mirrored_samples-a-requires-clause-high : goal.mirrored_samples-a-requires-clause-high
mirrored_samples-a-requires-clause-high c = high_small (at c.split.result.0) 0 (lit< tt) c.split.ensures.high _ _ (c.even_part-even_high.ensures.sums 0 (lit< tt)) (c.odd_part-odd_high.ensures.sums 0 (lit< tt))

pub mirrored_samples-a-requires-clause-low : goal.mirrored_samples-a-requires-clause-low
mirrored_samples-a-requires-clause-low c = low_small (at c.split.result.1) 0 (lit< tt) c.split.ensures.low _ _ (c.even_part-even_low.ensures.sums 0 (lit< tt)) (c.odd_part-odd_low.ensures.sums 0 (lit< tt))

pub mirrored_samples-b-requires-clause-high : goal.mirrored_samples-b-requires-clause-high
mirrored_samples-b-requires-clause-high c = high_small (at c.split.result.0) 1 (lit< tt) c.split.ensures.high _ _ (c.even_part-even_high.ensures.sums 1 (lit< tt)) (c.odd_part-odd_high.ensures.sums 1 (lit< tt))

pub mirrored_samples-b-requires-clause-low : goal.mirrored_samples-b-requires-clause-low
mirrored_samples-b-requires-clause-low c = low_small (at c.split.result.1) 1 (lit< tt) c.split.ensures.low _ _ (c.even_part-even_low.ensures.sums 1 (lit< tt)) (c.odd_part-odd_low.ensures.sums 1 (lit< tt))

pub mirrored_samples-c-requires-clause-high : goal.mirrored_samples-c-requires-clause-high
mirrored_samples-c-requires-clause-high c = high_small (at c.split.result.0) 2 (lit< tt) c.split.ensures.high _ _ (c.even_part-even_high.ensures.sums 2 (lit< tt)) (c.odd_part-odd_high.ensures.sums 2 (lit< tt))

pub mirrored_samples-c-requires-clause-low : goal.mirrored_samples-c-requires-clause-low
mirrored_samples-c-requires-clause-low c = low_small (at c.split.result.1) 2 (lit< tt) c.split.ensures.low _ _ (c.even_part-even_low.ensures.sums 2 (lit< tt)) (c.odd_part-odd_low.ensures.sums 2 (lit< tt))

pub mirrored_samples-d-requires-clause-high : goal.mirrored_samples-d-requires-clause-high
mirrored_samples-d-requires-clause-high c = high_small (at c.split.result.0) 3 (lit< tt) c.split.ensures.high _ _ (c.even_part-even_high.ensures.sums 3 (lit< tt)) (c.odd_part-odd_high.ensures.sums 3 (lit< tt))

pub mirrored_samples-d-requires-clause-low : goal.mirrored_samples-d-requires-clause-low
mirrored_samples-d-requires-clause-low c = low_small (at c.split.result.1) 3 (lit< tt) c.split.ensures.low _ _ (c.even_part-even_low.ensures.sums 3 (lit< tt)) (c.odd_part-odd_low.ensures.sums 3 (lit< tt))

pub returns : goal.returns
returns c =
    let whole = λ (x : ℕ). ap sample (sym (sum_split 8 (pos 65536) (λ u. basis u x) (at c.args.values) (at c.split.result.0) (at c.split.result.1) c.split.ensures.whole)) in
    let pair = λ (k : ℕ) (lt : k < 4). mirrored_are (at c.split.result.0) (at c.split.result.1) k lt
    (at c.even_part-even_high.result k) (at c.odd_part-odd_high.result k) (at c.even_part-even_low.result k) (at c.odd_part-odd_low.result k)
    (c.even_part-even_high.ensures.sums k lt) (c.odd_part-odd_high.ensures.sums k lt) (c.even_part-even_low.ensures.sums k lt) (c.odd_part-odd_low.ensures.sums k lt) in
    below_eight _
    (c.mirrored_samples-a.ensures.first ∙ ((pair 0 (lit< tt)).0 ∙ whole 0))
    (c.mirrored_samples-b.ensures.first ∙ ((pair 1 (lit< tt)).0 ∙ whole 1))
    (c.mirrored_samples-c.ensures.first ∙ ((pair 2 (lit< tt)).0 ∙ whole 2))
    (c.mirrored_samples-d.ensures.first ∙ ((pair 3 (lit< tt)).0 ∙ whole 3))
    (c.mirrored_samples-d.ensures.last ∙ ((pair 3 (lit< tt)).1 ∙ whole 4))
    (c.mirrored_samples-c.ensures.last ∙ ((pair 2 (lit< tt)).1 ∙ whole 5))
    (c.mirrored_samples-b.ensures.last ∙ ((pair 1 (lit< tt)).1 ∙ whole 6))
    (c.mirrored_samples-a.ensures.last ∙ ((pair 0 (lit< tt)).1 ∙ whole 7))
