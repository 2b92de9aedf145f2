use Rattle.mxf_op1a.proofs.EndLemmas.{ends, ends_back, named, named_back}
use Rattle.mxf_op1a.proofs.PlaceLemmas.{kinds, kinds_back, places, places_back}
use Rattle.mxf_op1a.proofs.laws.partitions_are_relations.Goals as goal

pub returns : goal.returns
returns c = record {
  ends = λ len stop items. (ends len stop items, ends_back len stop items);
  named = λ items all. (named items all, named_back items all);
  places = λ all. (places all, places_back all);
  kinds = λ len all. (kinds len all, kinds_back len all);
}
