use Rattle.mxf_metadata_reader.proofs.ExactLemmas.{read_one, read_or_refused, refusal_one}
use Rattle.mxf_metadata_reader.proofs.reading.set_refusals_are_exact.Goals as goal

pub returns : goal.returns
returns c =
    let law = c.items_are_unique.ensures.first in
    record { read = read_one law; none = read_or_refused law; one = refusal_one law }
