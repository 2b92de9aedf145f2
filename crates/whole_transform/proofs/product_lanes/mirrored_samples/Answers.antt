use Rattle.std.proofs.Common.{◌∙◌, ◌+◌, ◌*◌, ◌^◌, ℤ, pos, ◌+ℤ◌, ◌-ℤ◌, ◌*ℤ◌, ap₂, lit<}
use Rattle.whole_transform.specs.Sums.{at}
use Rattle.whole_transform.specs.Transform.{sample}
use Rattle.whole_transform.proofs.RowLemmas.{parts_fit, are_sums}
use Rattle.whole_transform.proofs.product_lanes.mirrored_samples.Goals as goal

pub sum_and_difference-first_high-requires : goal.sum_and_difference-first_high-requires
sum_and_difference-first_high-requires c = parts_fit (21643 * 43284 + (2 ^ 23 + 2 ^ 13)) (at c.args.even_high c.args.x) (at c.args.odd_high c.args.x) (lit< tt) c.requires.high

pub sum_and_difference-first_low-requires : goal.sum_and_difference-first_low-requires
sum_and_difference-first_low-requires c = parts_fit (2 ^ 15 * 43284) (at c.args.even_low c.args.x) (at c.args.odd_low c.args.x) (lit< tt) c.requires.low

pub joined_sample-requires-clause-high : goal.joined_sample-requires-clause-high
joined_sample-requires-clause-high c =
    let high = are_sums (21643 * 43284 + (2 ^ 23 + 2 ^ 13)) (at c.args.even_high c.args.x) (at c.args.odd_high c.args.x)
    c.sum_and_difference-first_high.result.0 c.sum_and_difference-first_high.result.1 (lit< tt) c.requires.high
    c.sum_and_difference-first_high.ensures.sum c.sum_and_difference-first_high.ensures.difference in
    high.first_small

pub joined_sample-requires-clause-low : goal.joined_sample-requires-clause-low
joined_sample-requires-clause-low c =
    let low = are_sums (2 ^ 15 * 43284) (at c.args.even_low c.args.x) (at c.args.odd_low c.args.x)
    c.sum_and_difference-first_low.result.0 c.sum_and_difference-first_low.result.1 (lit< tt) c.requires.low
    c.sum_and_difference-first_low.ensures.sum c.sum_and_difference-first_low.ensures.difference in
    low.first_small

pub joined_sample-requires-2-clause-high : goal.joined_sample-requires-2-clause-high
joined_sample-requires-2-clause-high c =
    let high = are_sums (21643 * 43284 + (2 ^ 23 + 2 ^ 13)) (at c.args.even_high c.args.x) (at c.args.odd_high c.args.x)
    c.sum_and_difference-first_high.result.0 c.sum_and_difference-first_high.result.1 (lit< tt) c.requires.high
    c.sum_and_difference-first_high.ensures.sum c.sum_and_difference-first_high.ensures.difference in
    high.last_small

pub joined_sample-requires-2-clause-low : goal.joined_sample-requires-2-clause-low
joined_sample-requires-2-clause-low c =
    let low = are_sums (2 ^ 15 * 43284) (at c.args.even_low c.args.x) (at c.args.odd_low c.args.x)
    c.sum_and_difference-first_low.result.0 c.sum_and_difference-first_low.result.1 (lit< tt) c.requires.low
    c.sum_and_difference-first_low.ensures.sum c.sum_and_difference-first_low.ensures.difference in
    low.last_small

pub returns-clause-first : goal.returns-clause-first
returns-clause-first c =
    let high = are_sums (21643 * 43284 + (2 ^ 23 + 2 ^ 13)) (at c.args.even_high c.args.x) (at c.args.odd_high c.args.x)
    c.sum_and_difference-first_high.result.0 c.sum_and_difference-first_high.result.1 (lit< tt) c.requires.high
    c.sum_and_difference-first_high.ensures.sum c.sum_and_difference-first_high.ensures.difference in
    let low = are_sums (2 ^ 15 * 43284) (at c.args.even_low c.args.x) (at c.args.odd_low c.args.x)
    c.sum_and_difference-first_low.result.0 c.sum_and_difference-first_low.result.1 (lit< tt) c.requires.low
    c.sum_and_difference-first_low.ensures.sum c.sum_and_difference-first_low.ensures.difference in
    c.joined_sample.ensures ∙ ap₂ (λ (a b : ℤ). sample (pos 65536 *ℤ (a -ℤ pos (2 ^ 23 + 2 ^ 13)) +ℤ b)) high.first_is low.first_is

pub returns-clause-last : goal.returns-clause-last
returns-clause-last c =
    let high = are_sums (21643 * 43284 + (2 ^ 23 + 2 ^ 13)) (at c.args.even_high c.args.x) (at c.args.odd_high c.args.x)
    c.sum_and_difference-first_high.result.0 c.sum_and_difference-first_high.result.1 (lit< tt) c.requires.high
    c.sum_and_difference-first_high.ensures.sum c.sum_and_difference-first_high.ensures.difference in
    let low = are_sums (2 ^ 15 * 43284) (at c.args.even_low c.args.x) (at c.args.odd_low c.args.x)
    c.sum_and_difference-first_low.result.0 c.sum_and_difference-first_low.result.1 (lit< tt) c.requires.low
    c.sum_and_difference-first_low.ensures.sum c.sum_and_difference-first_low.ensures.difference in
    c.joined_sample-2.ensures ∙ ap₂ (λ (a b : ℤ). sample (pos 65536 *ℤ (a -ℤ pos (2 ^ 23 + 2 ^ 13)) +ℤ b)) high.last_is low.last_is
