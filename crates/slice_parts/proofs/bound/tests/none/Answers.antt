use Rattle.slice_parts.proofs.ShortLemmas.{short_none}
use Rattle.slice_parts.proofs.bound.tests.none.Goals as goal

pub returns-clause-short : goal.returns-clause-short
returns-clause-short c = short_none 128
