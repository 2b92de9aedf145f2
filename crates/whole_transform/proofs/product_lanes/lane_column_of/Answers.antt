use Rattle.std.proofs.Common.{rules, ◌∙◌, ℕ, ap, sym, zero-add, ◌+◌, w16, w32, FitsSigned, lit≤}
use Rattle.whole_transform.specs.Sums.{at}
use Rattle.whole_transform.proofs.EachLemmas.{below_eight}
use Rattle.whole_transform.proofs.WordLemmas.{widened, widened_small}
use Rattle.whole_transform.proofs.product_lanes.lane_column_of.Goals as goal

pub returns-clause-values : goal.returns-clause-values
returns-clause-values c =
    let column = c.args.column in
    let fits_0 : FitsSigned w16 (at c.args.products.now column) = search rules in
    let fits_1 : FitsSigned w16 (at c.args.products.now (64 + column)) = search rules in
    let fits_2 : FitsSigned w16 (at c.args.products.now (128 + column)) = search rules in
    let fits_3 : FitsSigned w16 (at c.args.products.now (192 + column)) = search rules in
    let fits_4 : FitsSigned w16 (at c.args.products.now (256 + column)) = search rules in
    let fits_5 : FitsSigned w16 (at c.args.products.now (320 + column)) = search rules in
    let fits_6 : FitsSigned w16 (at c.args.products.now (384 + column)) = search rules in
    let fits_7 : FitsSigned w16 (at c.args.products.now (448 + column)) = search rules in
    below_eight _ (widened w16 w32 _ _ (lit≤ tt) fits_0 c.from.ensures ∙ ap (λ (i : ℕ). at c.args.products.now i) (sym (zero-add column)))
    (widened w16 w32 _ _ (lit≤ tt) fits_1 c.from-2.ensures)
    (widened w16 w32 _ _ (lit≤ tt) fits_2 c.from-3.ensures)
    (widened w16 w32 _ _ (lit≤ tt) fits_3 c.from-4.ensures)
    (widened w16 w32 _ _ (lit≤ tt) fits_4 c.from-5.ensures)
    (widened w16 w32 _ _ (lit≤ tt) fits_5 c.from-6.ensures)
    (widened w16 w32 _ _ (lit≤ tt) fits_6 c.from-7.ensures)
    (widened w16 w32 _ _ (lit≤ tt) fits_7 c.from-8.ensures)

pub returns-clause-small : goal.returns-clause-small
returns-clause-small c =
    let column = c.args.column in
    let fits_0 : FitsSigned w16 (at c.args.products.now column) = search rules in
    let fits_1 : FitsSigned w16 (at c.args.products.now (64 + column)) = search rules in
    let fits_2 : FitsSigned w16 (at c.args.products.now (128 + column)) = search rules in
    let fits_3 : FitsSigned w16 (at c.args.products.now (192 + column)) = search rules in
    let fits_4 : FitsSigned w16 (at c.args.products.now (256 + column)) = search rules in
    let fits_5 : FitsSigned w16 (at c.args.products.now (320 + column)) = search rules in
    let fits_6 : FitsSigned w16 (at c.args.products.now (384 + column)) = search rules in
    let fits_7 : FitsSigned w16 (at c.args.products.now (448 + column)) = search rules in
    below_eight _
    (widened_small _ _ fits_0 c.from.ensures)
    (widened_small _ _ fits_1 c.from-2.ensures)
    (widened_small _ _ fits_2 c.from-3.ensures)
    (widened_small _ _ fits_3 c.from-4.ensures)
    (widened_small _ _ fits_4 c.from-5.ensures)
    (widened_small _ _ fits_5 c.from-6.ensures)
    (widened_small _ _ fits_6 c.from-7.ensures)
    (widened_small _ _ fits_7 c.from-8.ensures)
