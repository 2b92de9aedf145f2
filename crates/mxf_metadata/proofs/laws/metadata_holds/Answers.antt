use Rattle.mxf_names.specs.laws.Lengths.{are-ids_of}
use Rattle.mxf_metadata.specs.laws.Laws.{length-metadata}
use Rattle.mxf_metadata.proofs.DurationLemmas.{sets_last}
use Rattle.mxf_metadata.proofs.ListedSets.{sets_listed}
use Rattle.mxf_metadata.proofs.TagLemmas.{tags_ordered}
use Rattle.mxf_metadata.proofs.laws.metadata_holds.Goals as goal

pub returns : goal.returns
returns c = record { identifiers = are-ids_of; sized = length-metadata; listed = sets_listed; ordered = tags_ordered; lasting = sets_last }
