use Rattle.std.proofs.Common.{◌≡◌, ◌≤◌, ◌-◌, ℕ, List, length}
use Rattle.local_sets.specs.Reads.{items_in, rest_in}
use Rattle.mxf_metadata_reader.specs.Faults.{items_fault}
use Rattle.mxf_metadata_reader.specs.inner.Places.{IsTable}
use Rattle.mxf_metadata_reader.proofs.FormLemmas.{fault_from}
use Rattle.mxf_metadata_reader.proofs.forms.set_fault.Given as goal

abbrev pub invariant-loop-at : goal.invariant-loop-at
invariant-loop-at l = record {
  place : l.at ≤ length l.value;
  fault : (tags : List ℕ) → IsTable l.listed tags → items_fault tags l.start (items_in l.value) (rest_in l.value) ≡ fault_from tags l.value l.start l.at;
}

abbrev pub decreases-loop-at : goal.decreases-loop-at
decreases-loop-at l = length l.value - l.at
