use Rattle.klv.proofs.RefusalLemmas.{refused_none, refusal_is_one}
use Rattle.klv.proofs.item.refusals_are_exact.Goals as goal

pub returns : goal.returns
returns c = record { none = refused_none; one = refusal_is_one }
