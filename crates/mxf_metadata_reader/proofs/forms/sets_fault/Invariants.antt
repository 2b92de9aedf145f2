use Rattle.std.proofs.Common.{◌≡◌, ℕ, List, drop}
use Rattle.mxf_metadata_reader.specs.Faults.{sets_fault}
use Rattle.mxf_metadata_reader.specs.inner.Places.{sets_at}
use Rattle.mxf_metadata_reader.specs.inner.Places.{IsTable}
use Rattle.mxf_metadata_reader.proofs.forms.sets_fault.Given as goal

abbrev pub invariant-sets : goal.invariant-sets
invariant-sets l = (tags : List ℕ) → IsTable l.listed tags
    → sets_fault tags (sets_at l.bytes l.sets) ≡ sets_fault tags (sets_at l.bytes (drop l.set-index l.sets))
