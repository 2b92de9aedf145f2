use Rattle.std.proofs.Common.{◌≡◌, ◌≤◌, ◌-◌, length}
use Rattle.local_sets.specs.Reads.{items_in}
use Rattle.mxf_metadata_reader.specs.References.{first_value}
use Rattle.mxf_metadata_reader.proofs.LinkLemmas.{value_from}
use Rattle.mxf_metadata_reader.proofs.links.find_item.Given as goal

abbrev pub invariant-loop-at : goal.invariant-loop-at
invariant-loop-at l = record {
  place : l.at ≤ length l.value;
  first : first_value l.tag (items_in l.value) ≡ value_from l.value l.tag l.at;
}

abbrev pub decreases-loop-at : goal.decreases-loop-at
decreases-loop-at l = length l.value - l.at
