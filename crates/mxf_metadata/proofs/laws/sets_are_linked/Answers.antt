use Rattle.mxf_metadata.proofs.LinkedSets.{sets_identified, sets_owned, sets_resolved, sets_sequences, sets_shown}
use Rattle.mxf_metadata.proofs.laws.sets_are_linked.Goals as goal

pub returns : goal.returns
returns c = record { identified = sets_identified; owned = sets_owned; resolved = sets_resolved; sequences = sets_sequences; shown = sets_shown }
