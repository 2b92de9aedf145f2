use Rattle.mxf_metadata_reader.proofs.LinkLemmas.{HoldsBefore}
use Rattle.mxf_metadata_reader.proofs.links.ids_of.Given as goal

abbrev pub invariant-sets : goal.invariant-sets
invariant-sets l = HoldsBefore l.ids l.bytes l.sets l.set-index
