use Rattle.mxf_op1a.proofs.KeptLemmas.{keeps, keeps_back}
use Rattle.mxf_op1a.proofs.MetadataLemmas.{metadata, metadata_back}
use Rattle.mxf_op1a.proofs.laws.kept_clauses_are_relations.Goals as goal

pub returns : goal.returns
returns c = record {
  metadata = λ len file. (metadata len file, metadata_back len file);
  all = λ len items. (keeps len items, keeps_back len items);
}
