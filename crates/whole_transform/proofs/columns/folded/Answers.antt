use Rattle.std.proofs.Common.{w32, ℕ, ◌<◌, ◌*◌, lit<}
use Rattle.whole_transform.specs.Sums.{at}
use Rattle.whole_transform.proofs.EachLemmas.{below_two, below_four}
use Rattle.whole_transform.proofs.WordLemmas.{sum_kept, sum_small, difference_kept, difference_small}
use Rattle.whole_transform.proofs.columns.folded.Goals as goal

pub returns-clause-sums : goal.returns-clause-sums
returns-clause-sums c =
    let at_place = λ (j k : ℕ) (p : j < 4) (q : k < 4). sum_kept w32 (at c.args.x j) (at c.args.x k) (2 * (512 * 46344)) (lit< tt) (c.requires j p) (c.requires k q) in
    below_two _ (at_place 0 3 (lit< tt) (lit< tt)) (at_place 1 2 (lit< tt) (lit< tt))

pub returns-clause-differences : goal.returns-clause-differences
returns-clause-differences c =
    let at_place = λ (j k : ℕ) (p : j < 4) (q : k < 4). difference_kept w32 (at c.args.x j) (at c.args.x k) (2 * (512 * 46344)) (lit< tt) (c.requires j p) (c.requires k q) in
    below_two _ (at_place 0 3 (lit< tt) (lit< tt)) (at_place 1 2 (lit< tt) (lit< tt))

pub returns-clause-small : goal.returns-clause-small
returns-clause-small c =
    let sum = λ (j k : ℕ) (p : j < 4) (q : k < 4). sum_small w32 (at c.args.x j) (at c.args.x k) (2 * (512 * 46344)) (lit< tt) (c.requires j p) (c.requires k q) in
    let difference = λ (j k : ℕ) (p : j < 4) (q : k < 4). difference_small w32 (at c.args.x j) (at c.args.x k) (2 * (512 * 46344)) (lit< tt) (c.requires j p) (c.requires k q) in
    below_four _ (sum 0 3 (lit< tt) (lit< tt)) (sum 1 2 (lit< tt) (lit< tt)) (difference 0 3 (lit< tt) (lit< tt)) (difference 1 2 (lit< tt) (lit< tt))
