use Rattle.whole_transform.specs.Sums.{at}
use Rattle.whole_transform.proofs.ColumnLemmas.{even_by_halves}
use Rattle.whole_transform.proofs.columns.even_sums.Goals as goal

pub returns-clause-sums : goal.returns-clause-sums
returns-clause-sums c = even_by_halves (at c.args.x) (at c.mirrored_sums.result) (at c.folded.result)
    (at c.split.result.0) (at c.split.result.1) (at c.even_products.result) (at c.even_products-2.result)
    c.mirrored_sums.ensures.sums c.folded.ensures.sums c.folded.ensures.differences c.split.ensures.whole
    c.even_products.ensures.fourth c.even_products.ensures.second c.even_products-2.ensures.fourth c.even_products-2.ensures.second
