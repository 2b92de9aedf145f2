use Rattle.std.proofs.Common.{w32, ℕ, ◌<◌, ◌*◌, lit<}
use Rattle.whole_transform.specs.Sums.{at}
use Rattle.whole_transform.proofs.EachLemmas.{below_four}
use Rattle.whole_transform.proofs.WordLemmas.{sum_kept, sum_small}
use Rattle.whole_transform.proofs.columns.mirrored_sums.Goals as goal

pub returns-clause-sums : goal.returns-clause-sums
returns-clause-sums c =
    let at_place = λ (j k : ℕ) (p : j < 8) (q : k < 8). sum_kept w32 (at c.args.x j) (at c.args.x k) (512 * 46344) (lit< tt) (c.requires j p) (c.requires k q) in
    below_four _ (at_place 0 7 (lit< tt) (lit< tt)) (at_place 1 6 (lit< tt) (lit< tt)) (at_place 2 5 (lit< tt) (lit< tt)) (at_place 3 4 (lit< tt) (lit< tt))

pub returns-clause-small : goal.returns-clause-small
returns-clause-small c =
    let at_place = λ (j k : ℕ) (p : j < 8) (q : k < 8). sum_small w32 (at c.args.x j) (at c.args.x k) (512 * 46344) (lit< tt) (c.requires j p) (c.requires k q) in
    below_four _ (at_place 0 7 (lit< tt) (lit< tt)) (at_place 1 6 (lit< tt) (lit< tt)) (at_place 2 5 (lit< tt) (lit< tt)) (at_place 3 4 (lit< tt) (lit< tt))
