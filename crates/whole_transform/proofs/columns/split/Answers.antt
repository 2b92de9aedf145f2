use Rattle.std.proofs.Common.{w32, ℕ, ◌<◌, ◌*◌, ◌^◌, ◌∙◌, sym, lit<}
use Rattle.whole_transform.specs.Sums.{at}
use Rattle.whole_transform.proofs.EachLemmas.{below_four}
use Rattle.whole_transform.proofs.WordLemmas.{kept, kept_small, joined_kept}
use Rattle.whole_transform.proofs.columns.split.Goals as goal

pub returns-clause-whole : goal.returns-clause-whole
returns-clause-whole c =
    let same = λ (k : ℕ) (lt : k < 4). sym (kept w32 (at c.args.x k) (4 * (512 * 46344)) (lit< tt) (c.requires k lt)) in
    below_four _
    (same 0 (lit< tt) ∙ c.halves-a.ensures.whole ∙ sym (joined_kept (kept w32 c.halves-a.result.0 21643 (lit< tt) c.halves-a.ensures.high) (kept w32 c.halves-a.result.1 (2 ^ 15) (lit< tt) c.halves-a.ensures.low)))
    (same 1 (lit< tt) ∙ c.halves-b.ensures.whole ∙ sym (joined_kept (kept w32 c.halves-b.result.0 21643 (lit< tt) c.halves-b.ensures.high) (kept w32 c.halves-b.result.1 (2 ^ 15) (lit< tt) c.halves-b.ensures.low)))
    (same 2 (lit< tt) ∙ c.halves-c.ensures.whole ∙ sym (joined_kept (kept w32 c.halves-c.result.0 21643 (lit< tt) c.halves-c.ensures.high) (kept w32 c.halves-c.result.1 (2 ^ 15) (lit< tt) c.halves-c.ensures.low)))
    (same 3 (lit< tt) ∙ c.halves-d.ensures.whole ∙ sym (joined_kept (kept w32 c.halves-d.result.0 21643 (lit< tt) c.halves-d.ensures.high) (kept w32 c.halves-d.result.1 (2 ^ 15) (lit< tt) c.halves-d.ensures.low)))

pub returns-clause-high : goal.returns-clause-high
returns-clause-high c = below_four _
    (kept_small w32 c.halves-a.result.0 21643 (lit< tt) c.halves-a.ensures.high)
    (kept_small w32 c.halves-b.result.0 21643 (lit< tt) c.halves-b.ensures.high)
    (kept_small w32 c.halves-c.result.0 21643 (lit< tt) c.halves-c.ensures.high)
    (kept_small w32 c.halves-d.result.0 21643 (lit< tt) c.halves-d.ensures.high)

pub returns-clause-low : goal.returns-clause-low
returns-clause-low c = below_four _
    (kept_small w32 c.halves-a.result.1 (2 ^ 15) (lit< tt) c.halves-a.ensures.low)
    (kept_small w32 c.halves-b.result.1 (2 ^ 15) (lit< tt) c.halves-b.ensures.low)
    (kept_small w32 c.halves-c.result.1 (2 ^ 15) (lit< tt) c.halves-c.ensures.low)
    (kept_small w32 c.halves-d.result.1 (2 ^ 15) (lit< tt) c.halves-d.ensures.low)
