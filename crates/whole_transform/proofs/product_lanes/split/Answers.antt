use Rattle.std.proofs.Common.{◌∙◌, ◌<◌, ◌*◌, ◌^◌, ℕ, sym, w32, lit<}
use Rattle.whole_transform.specs.Sums.{at}
use Rattle.whole_transform.proofs.EachLemmas.{below_eight}
use Rattle.whole_transform.proofs.WordLemmas.{kept, kept_small, joined_kept}
use Rattle.whole_transform.proofs.product_lanes.split.Goals as goal

pub returns-clause-whole : goal.returns-clause-whole
returns-clause-whole c =
    let value = λ (u : ℕ) (lt : u < 8). sym (kept w32 (at c.args.values u) (2 ^ 15 * 43284) (lit< tt) (c.requires u lt)) in
    below_eight _
    (value 0 (lit< tt) ∙ c.halves-a.ensures.whole ∙ sym (joined_kept (kept w32 c.halves-a.result.0 21643 (lit< tt) c.halves-a.ensures.high) (kept w32 c.halves-a.result.1 (2 ^ 15) (lit< tt) c.halves-a.ensures.low)))
    (value 1 (lit< tt) ∙ c.halves-b.ensures.whole ∙ sym (joined_kept (kept w32 c.halves-b.result.0 21643 (lit< tt) c.halves-b.ensures.high) (kept w32 c.halves-b.result.1 (2 ^ 15) (lit< tt) c.halves-b.ensures.low)))
    (value 2 (lit< tt) ∙ c.halves-c.ensures.whole ∙ sym (joined_kept (kept w32 c.halves-c.result.0 21643 (lit< tt) c.halves-c.ensures.high) (kept w32 c.halves-c.result.1 (2 ^ 15) (lit< tt) c.halves-c.ensures.low)))
    (value 3 (lit< tt) ∙ c.halves-d.ensures.whole ∙ sym (joined_kept (kept w32 c.halves-d.result.0 21643 (lit< tt) c.halves-d.ensures.high) (kept w32 c.halves-d.result.1 (2 ^ 15) (lit< tt) c.halves-d.ensures.low)))
    (value 4 (lit< tt) ∙ c.halves-e.ensures.whole ∙ sym (joined_kept (kept w32 c.halves-e.result.0 21643 (lit< tt) c.halves-e.ensures.high) (kept w32 c.halves-e.result.1 (2 ^ 15) (lit< tt) c.halves-e.ensures.low)))
    (value 5 (lit< tt) ∙ c.halves-f.ensures.whole ∙ sym (joined_kept (kept w32 c.halves-f.result.0 21643 (lit< tt) c.halves-f.ensures.high) (kept w32 c.halves-f.result.1 (2 ^ 15) (lit< tt) c.halves-f.ensures.low)))
    (value 6 (lit< tt) ∙ c.halves-g.ensures.whole ∙ sym (joined_kept (kept w32 c.halves-g.result.0 21643 (lit< tt) c.halves-g.ensures.high) (kept w32 c.halves-g.result.1 (2 ^ 15) (lit< tt) c.halves-g.ensures.low)))
    (value 7 (lit< tt) ∙ c.halves-h.ensures.whole ∙ sym (joined_kept (kept w32 c.halves-h.result.0 21643 (lit< tt) c.halves-h.ensures.high) (kept w32 c.halves-h.result.1 (2 ^ 15) (lit< tt) c.halves-h.ensures.low)))

pub returns-clause-high : goal.returns-clause-high
returns-clause-high c = below_eight _
    (kept_small w32 c.halves-a.result.0 21643 (lit< tt) c.halves-a.ensures.high)
    (kept_small w32 c.halves-b.result.0 21643 (lit< tt) c.halves-b.ensures.high)
    (kept_small w32 c.halves-c.result.0 21643 (lit< tt) c.halves-c.ensures.high)
    (kept_small w32 c.halves-d.result.0 21643 (lit< tt) c.halves-d.ensures.high)
    (kept_small w32 c.halves-e.result.0 21643 (lit< tt) c.halves-e.ensures.high)
    (kept_small w32 c.halves-f.result.0 21643 (lit< tt) c.halves-f.ensures.high)
    (kept_small w32 c.halves-g.result.0 21643 (lit< tt) c.halves-g.ensures.high)
    (kept_small w32 c.halves-h.result.0 21643 (lit< tt) c.halves-h.ensures.high)

pub returns-clause-low : goal.returns-clause-low
returns-clause-low c = below_eight _
    (kept_small w32 c.halves-a.result.1 (2 ^ 15) (lit< tt) c.halves-a.ensures.low)
    (kept_small w32 c.halves-b.result.1 (2 ^ 15) (lit< tt) c.halves-b.ensures.low)
    (kept_small w32 c.halves-c.result.1 (2 ^ 15) (lit< tt) c.halves-c.ensures.low)
    (kept_small w32 c.halves-d.result.1 (2 ^ 15) (lit< tt) c.halves-d.ensures.low)
    (kept_small w32 c.halves-e.result.1 (2 ^ 15) (lit< tt) c.halves-e.ensures.low)
    (kept_small w32 c.halves-f.result.1 (2 ^ 15) (lit< tt) c.halves-f.ensures.low)
    (kept_small w32 c.halves-g.result.1 (2 ^ 15) (lit< tt) c.halves-g.ensures.low)
    (kept_small w32 c.halves-h.result.1 (2 ^ 15) (lit< tt) c.halves-h.ensures.low)

pub halves-f-requires : goal.halves-f-requires
halves-f-requires c = kept_small w32 (at c.args.values 5) (2 ^ 15 * 43284) (lit< tt) (c.requires 5 (lit< tt))

pub halves-g-requires : goal.halves-g-requires
halves-g-requires c = kept_small w32 (at c.args.values 6) (2 ^ 15 * 43284) (lit< tt) (c.requires 6 (lit< tt))

pub halves-h-requires : goal.halves-h-requires
halves-h-requires c = kept_small w32 (at c.args.values 7) (2 ^ 15 * 43284) (lit< tt) (c.requires 7 (lit< tt))
