use Rattle.std.proofs.Common.{◌≡◌, drop}
use Rattle.mxf_metadata_reader.specs.Fields.{items_of_kind}
use Rattle.mxf_metadata_reader.specs.inner.Places.{sets_at}
use Rattle.mxf_metadata_reader.proofs.fields.value_of_kind.Given as goal

abbrev pub invariant-sets : goal.invariant-sets
invariant-sets l = items_of_kind l.kind (sets_at l.bytes l.sets) ≡ items_of_kind l.kind (sets_at l.bytes (drop l.set-index l.sets))
