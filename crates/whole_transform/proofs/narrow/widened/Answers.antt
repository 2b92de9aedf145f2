use Rattle.std.proofs.Common.{rules, w16, w32, FitsSigned, lit≤}
use Rattle.whole_transform.specs.Sums.{at}
use Rattle.whole_transform.proofs.EachLemmas.{below_four}
use Rattle.whole_transform.proofs.WordLemmas.{widened}
use Rattle.whole_transform.proofs.narrow.widened.Goals as goal

pub returns-clause-same : goal.returns-clause-same
returns-clause-same c =
    let fits_0 : FitsSigned w16 (at c.args.x 0) = search rules in
    let fits_1 : FitsSigned w16 (at c.args.x 1) = search rules in
    let fits_2 : FitsSigned w16 (at c.args.x 2) = search rules in
    let fits_3 : FitsSigned w16 (at c.args.x 3) = search rules in
    below_four _
    (widened w16 w32 _ _ (lit≤ tt) fits_0 c.from.ensures)
    (widened w16 w32 _ _ (lit≤ tt) fits_1 c.from-2.ensures)
    (widened w16 w32 _ _ (lit≤ tt) fits_2 c.from-3.ensures)
    (widened w16 w32 _ _ (lit≤ tt) fits_3 c.from-4.ensures)
