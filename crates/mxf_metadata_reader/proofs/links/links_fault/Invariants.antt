use Rattle.std.proofs.Common.{◌≡◌, List, drop}
use Rattle.mxf_metadata_reader.specs.Faults.{links_fault}
use Rattle.mxf_metadata_reader.specs.PlacedSets.{PlacedSet}
use Rattle.mxf_metadata_reader.specs.inner.Places.{HoldsIds, sets_at}
use Rattle.mxf_metadata_reader.proofs.links.links_fault.Given as goal

abbrev pub invariant-sets : goal.invariant-sets
invariant-sets l = (all : List PlacedSet) → HoldsIds l.ids all
    → links_fault all (sets_at l.bytes l.sets) ≡ links_fault all (sets_at l.bytes (drop l.set-index l.sets))
