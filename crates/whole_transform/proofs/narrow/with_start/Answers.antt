use Rattle.std.proofs.Common.{w32, ◌+◌, ◌*◌, ◌^◌, lit<, arith}
use Rattle.std.proofs.lemmas.Int.{ints}
use Rattle.whole_transform.specs.Sums.{at}
use Rattle.whole_transform.proofs.EachLemmas.{below_two, below_four}
use Rattle.whole_transform.proofs.WordLemmas.{kept, kept_small, sum_kept_by}
use Rattle.whole_transform.proofs.narrow.with_start.Goals as goal

pub returns-clause-begun : goal.returns-clause-begun
returns-clause-begun c =
    let at_0 = c.requires.products 0 (lit< tt) in
    let at_2 = c.requires.products 2 (lit< tt) in
    let start = c.requires.start in
    below_two _ (sum_kept_by w32 c.args.start (at c.args.x 0) (omega arith)) (sum_kept_by w32 c.args.start (at c.args.x 2) (omega arith))

pub returns-clause-same : goal.returns-clause-same
returns-clause-same c = below_two _
    (kept w32 (at c.args.x 1) (2 * (8035 * 2 ^ 15)) (lit< tt) (c.requires.products 1 (lit< tt)))
    (kept w32 (at c.args.x 3) (2 * (8035 * 2 ^ 15)) (lit< tt) (c.requires.products 3 (lit< tt)))

pub returns-clause-small : goal.returns-clause-small
returns-clause-small c =
    let at_0 = c.requires.products 0 (lit< tt) in
    let at_1 = c.requires.products 1 (lit< tt) in
    let at_2 = c.requires.products 2 (lit< tt) in
    let at_3 = c.requires.products 3 (lit< tt) in
    let start = c.requires.start in
    below_four _
    (rw (sum_kept_by w32 c.args.start (at c.args.x 0) (omega arith)) (omega (arith, ints)))
    (kept_small w32 (at c.args.x 1) (2 * (8035 * 2 ^ 15) + (2 ^ 23 + 2 ^ 13)) (lit< tt) (omega arith))
    (rw (sum_kept_by w32 c.args.start (at c.args.x 2) (omega arith)) (omega (arith, ints)))
    (kept_small w32 (at c.args.x 3) (2 * (8035 * 2 ^ 15) + (2 ^ 23 + 2 ^ 13)) (lit< tt) (omega arith))
