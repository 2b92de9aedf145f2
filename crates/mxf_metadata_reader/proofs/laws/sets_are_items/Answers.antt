use Rattle.mxf_metadata_reader.proofs.RelationLemmas.{primer_is_of, set_is, set_reads}
use Rattle.mxf_metadata_reader.proofs.laws.sets_are_items.Goals as goal

pub returns : goal.returns
returns c = record { set = set_is; spelled = set_reads; primer = primer_is_of }
