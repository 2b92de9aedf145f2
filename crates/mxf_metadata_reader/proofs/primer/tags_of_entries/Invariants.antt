use Rattle.mxf_metadata_reader.proofs.PrimerLemmas.{IsTableBefore}
use Rattle.mxf_metadata_reader.proofs.primer.tags_of_entries.Given as goal

abbrev pub invariant-loop-k : goal.invariant-loop-k
invariant-loop-k l = IsTableBefore l.listed.items l.count l.k l.entries
