use Rattle.std.proofs.Common.{◌≡◌, List}
use Rattle.mxf_metadata_reader.specs.PlacedSets.{PlacedSet}
use Rattle.mxf_metadata_reader.specs.References.{all_found, ids_in}
use Rattle.mxf_metadata_reader.specs.inner.Places.{HoldsIds}
use Rattle.mxf_metadata_reader.proofs.FoundLemmas.{found_from}
use Rattle.mxf_metadata_reader.proofs.links.all_found.Given as goal

abbrev pub invariant-loop-k : goal.invariant-loop-k
invariant-loop-k l = (sets : List PlacedSet) → HoldsIds l.ids sets → all_found sets (ids_in l.count l.bytes) ≡ found_from sets l.bytes l.count l.k
