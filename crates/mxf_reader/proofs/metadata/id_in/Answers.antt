use Rattle.std.proofs.Common.{ℕ, List, sym, ap, subst, ◌∙◌}
use Rattle.mxf_metadata_check.specs.Metadata.{AreMetadata, take_id_in}
use Rattle.mxf_reader.proofs.MetadataHeld.{primer_missing}
use Rattle.mxf_reader.proofs.MetadataRules.{id_missing}
use Rattle.mxf_reader.proofs.metadata.id_in.Goals as goal

pub returns-in-None-clause-id : goal.returns-in-None-clause-id
returns-in-None-clause-id g c = λ told is whole part.
    id_missing whole (primer_missing told.essence.reads c.args.stop c.args.part.now whole part c.in-None.is)

pub returns-in_ok-bytes-in-Some-clause-id : goal.returns-in_ok-bytes-in-Some-clause-id
returns-in_ok-bytes-in-Some-clause-id g c = λ told is whole part.
    let held = c.in_ok-bytes-in-Some.ensures.held told is whole part in
    sym (ap take_id_in held.sets
    ∙ c.take_id.ensures c.in-Some.first held.primer held.items
    (subst (λ (bytes : List ℕ). AreMetadata bytes held.primer held.items) (sym c.deref.ensures.value) held.are))
