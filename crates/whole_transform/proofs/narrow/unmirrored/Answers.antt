use Rattle.std.proofs.Common.{w32, ℕ, ◌<◌, ◌+◌, ◌*◌, ◌^◌, lit<, arith}
use Rattle.whole_transform.specs.Sums.{at}
use Rattle.whole_transform.proofs.EachLemmas.{below_four}
use Rattle.whole_transform.proofs.WordLemmas.{sum_kept, difference_kept}
use Rattle.whole_transform.proofs.narrow.unmirrored.Goals as goal

pub returns-clause-first : goal.returns-clause-first
returns-clause-first c =
    let at_place = λ (k : ℕ) (p : k < 4). sum_kept w32 (at c.args.even k) (at c.args.odd k) (4 * (8035 * 2 ^ 15) + (2 ^ 24 + 2 ^ 14)) (lit< tt) (c.requires.even k p) (let small = c.requires.odd k p in omega arith) in
    below_four _ (at_place 0 (lit< tt)) (at_place 1 (lit< tt)) (at_place 2 (lit< tt)) (at_place 3 (lit< tt))

pub returns-clause-last : goal.returns-clause-last
returns-clause-last c =
    let at_place = λ (k : ℕ) (p : k < 4). difference_kept w32 (at c.args.even k) (at c.args.odd k) (4 * (8035 * 2 ^ 15) + (2 ^ 24 + 2 ^ 14)) (lit< tt) (c.requires.even k p) (let small = c.requires.odd k p in omega arith) in
    below_four _ (at_place 0 (lit< tt)) (at_place 1 (lit< tt)) (at_place 2 (lit< tt)) (at_place 3 (lit< tt))
