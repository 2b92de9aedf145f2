use Rattle.std.proofs.Common.{◌≡◌, ◌+◌, ◌*◌, ℕ, ap, ◌∙◌, arith}
use Rattle.whole_transform.specs.Sums.{at}
use Rattle.slice_levels.specs.laws.EntryLaws.{below_eight}
use Rattle.slice_levels.proofs.lanes.row_of.Goals as goal

pub returns : goal.returns
returns c =
    let first : c.args.first + 8 * 0 ≡ c.args.first = omega arith in
    below_eight _ (ap (λ (n : ℕ). at c.args.sums.now n) first ∙ c.sample_at.ensures) c.sample_at-2.ensures c.sample_at-3.ensures c.sample_at-4.ensures
    c.sample_at-5.ensures c.sample_at-6.ensures c.sample_at-7.ensures c.sample_at-8.ensures
