use Rattle.std.proofs.Common.{w32, ℕ, ◌<◌, ◌+◌, ◌*◌, ◌^◌, lit<}
use Rattle.whole_transform.specs.Sums.{at}
use Rattle.whole_transform.proofs.EachLemmas.{below_four}
use Rattle.whole_transform.proofs.WordLemmas.{sum_kept, difference_kept, sum_small, difference_small}
use Rattle.whole_transform.proofs.narrow.crossed.Goals as goal

pub returns-clause-outer : goal.returns-clause-outer
returns-clause-outer c = (
  sum_kept w32 (at c.args.x 0) (at c.args.x 1) (2 * (8035 * 2 ^ 15) + (2 ^ 23 + 2 ^ 13)) (lit< tt) (c.requires 0 (lit< tt)) (c.requires 1 (lit< tt)),
  difference_kept w32 (at c.args.x 0) (at c.args.x 1) (2 * (8035 * 2 ^ 15) + (2 ^ 23 + 2 ^ 13)) (lit< tt) (c.requires 0 (lit< tt)) (c.requires 1 (lit< tt)),
)

pub returns-clause-inner : goal.returns-clause-inner
returns-clause-inner c = (
  sum_kept w32 (at c.args.x 2) (at c.args.x 3) (2 * (8035 * 2 ^ 15) + (2 ^ 23 + 2 ^ 13)) (lit< tt) (c.requires 2 (lit< tt)) (c.requires 3 (lit< tt)),
  difference_kept w32 (at c.args.x 2) (at c.args.x 3) (2 * (8035 * 2 ^ 15) + (2 ^ 23 + 2 ^ 13)) (lit< tt) (c.requires 2 (lit< tt)) (c.requires 3 (lit< tt)),
)

pub returns-clause-small : goal.returns-clause-small
returns-clause-small c =
    let sum = λ (j k : ℕ) (p : j < 4) (q : k < 4). sum_small w32 (at c.args.x j) (at c.args.x k) (2 * (8035 * 2 ^ 15) + (2 ^ 23 + 2 ^ 13)) (lit< tt) (c.requires j p) (c.requires k q) in
    let difference = λ (j k : ℕ) (p : j < 4) (q : k < 4). difference_small w32 (at c.args.x j) (at c.args.x k) (2 * (8035 * 2 ^ 15) + (2 ^ 23 + 2 ^ 13)) (lit< tt) (c.requires j p) (c.requires k q) in
    below_four _ (sum 0 1 (lit< tt) (lit< tt)) (sum 2 3 (lit< tt) (lit< tt)) (difference 2 3 (lit< tt) (lit< tt)) (difference 0 1 (lit< tt) (lit< tt))
