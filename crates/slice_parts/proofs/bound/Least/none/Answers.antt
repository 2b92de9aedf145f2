use Rattle.slice_parts.proofs.AcLemmas.{left_none}
use Rattle.slice_parts.proofs.bound.Least.none.Goals as goal

pub returns-clause-left : goal.returns-clause-left
returns-clause-left c = λ levels. left_none levels 33
