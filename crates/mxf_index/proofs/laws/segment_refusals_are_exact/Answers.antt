use Rattle.mxf_index.proofs.ExactLemmas.{memory_alone}
use Rattle.mxf_index.proofs.laws.segment_refusals_are_exact.Goals as goal

pub returns-clause-none : goal.returns-clause-none
returns-clause-none c = memory_alone c.items_are_unique.ensures.first
