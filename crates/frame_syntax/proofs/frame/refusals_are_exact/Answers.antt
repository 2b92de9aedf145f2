use Rattle.frame_syntax.proofs.ExactLemmas.{refusal_is_one}
use Rattle.frame_syntax.proofs.SpanLemmas.{slices_count}
use Rattle.frame_syntax.proofs.frame.refusals_are_exact.Goals as goal

pub returns-clause-one : goal.returns-clause-one
returns-clause-one c = refusal_is_one

pub returns-clause-counted : goal.returns-clause-counted
returns-clause-counted c = slices_count
