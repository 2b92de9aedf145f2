use Rattle.std.proofs.Common.{◌≡◌, ◌≤◌, ◌-◌, List, length}
use Rattle.local_sets.specs.Reads.{items_in}
use Rattle.mxf_metadata_reader.specs.Faults.{names_fault}
use Rattle.mxf_metadata_reader.specs.PlacedSets.{PlacedSet}
use Rattle.mxf_metadata_reader.specs.inner.Places.{HoldsIds}
use Rattle.mxf_metadata_reader.proofs.NameLemmas.{names_from}
use Rattle.mxf_metadata_reader.proofs.links.names_fault.Given as goal

abbrev pub invariant-loop-at : goal.invariant-loop-at
invariant-loop-at l = record {
  place : l.at ≤ length l.value;
  fault : (sets : List PlacedSet) → HoldsIds l.ids sets → names_fault sets l.start (items_in l.value) ≡ names_from sets l.value l.start l.at;
}

abbrev pub decreases-loop-at : goal.decreases-loop-at
decreases-loop-at l = length l.value - l.at
