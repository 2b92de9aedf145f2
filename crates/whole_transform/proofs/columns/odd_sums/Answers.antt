use Rattle.whole_transform.specs.Sums.{at}
use Rattle.whole_transform.proofs.ColumnLemmas.{odd_by_halves}
use Rattle.whole_transform.proofs.columns.odd_sums.Goals as goal

pub returns-clause-sums : goal.returns-clause-sums
returns-clause-sums c = odd_by_halves (at c.args.x) (at c.mirrored_differences.result)
    (at c.split.result.0) (at c.split.result.1) (at c.odd_half.result) (at c.odd_half-2.result)
    c.mirrored_differences.ensures.differences c.split.ensures.whole c.odd_half.ensures.sums c.odd_half-2.ensures.sums
