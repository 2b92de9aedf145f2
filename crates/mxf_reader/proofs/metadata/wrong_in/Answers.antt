use Rattle.std.proofs.Common.{ℕ, List, sym, subst, ◌∙◌}
use Rattle.mxf_metadata_check.specs.Metadata.{AreMetadata}
use Rattle.mxf_reader.proofs.MetadataHeld.{primer_missing}
use Rattle.mxf_reader.proofs.MetadataRules.{wrong_missing}
use Rattle.mxf_reader.proofs.metadata.wrong_in.Goals as goal

pub returns-in-None-clause-wrong : goal.returns-in-None-clause-wrong
returns-in-None-clause-wrong g c = λ told is whole part.
    sym (wrong_missing c.args.len whole (primer_missing told.essence.reads c.args.stop c.args.part.now whole part c.in-None.is))

pub returns-in-Ok-clause-wrong : goal.returns-in-Ok-clause-wrong
returns-in-Ok-clause-wrong g c = λ told is whole part.
    let held = c.in_ok-bytes-in-Some.ensures.held told is whole part in
    sym (held.wrong c.args.len
    ∙ c.in-Ok.ensures held.primer held.items
    (subst (λ (bytes : List ℕ). AreMetadata bytes held.primer held.items) (sym c.deref.ensures.value) held.are))
