use Rattle.std.proofs.Common.{◌∙◌, ◌^◌, ℤ, pos, ◌+ℤ◌, ap, w32, w64, lit<, lit≤}
use Rattle.std.proofs.lemmas.Int.{to_z-of_z}
use Rattle.whole_transform.specs.Transform.{clamped, floored, sample}
use Rattle.whole_transform.proofs.WordLemmas.{sum_kept}
use Rattle.whole_transform.proofs.samples.sample_of.Goals as goal

pub returns : goal.returns
unfolding sample
returns c =
    c.clamped_sample.ensures
    ∙ ap clamped (sum_kept w32 (pos 512) c.rounded.result (2 ^ 25) (lit< tt) (lit≤ tt) c.rounded.ensures.small
    ∙ ap (λ (z : ℤ). pos 512 +ℤ z) (c.rounded.ensures.value
    ∙ ap (λ (z : ℤ). floored (z +ℤ pos (2 ^ 29)) (2 ^ 30)) (to_z-of_z w64 c.args.sum c.ranges.sum)))
