use Rattle.mxf_op1a.proofs.DurationLemmas.{lasting, lasting_back}
use Rattle.mxf_op1a.proofs.FirstLemmas.{lengths, lengths_back}
use Rattle.mxf_op1a.proofs.IndexLemmas.{indexed, indexed_back}
use Rattle.mxf_op1a.proofs.StreamLemmas.{counts, counts_back, held, held_back}
use Rattle.mxf_op1a.proofs.laws.elements_are_relations.Goals as goal

pub returns : goal.returns
returns c = record {
  stream = λ bodies. (counts bodies, counts_back bodies);
  held = λ len front file. (held len front file, held_back len front file);
  lasting = λ count file. (lasting count file, lasting_back count file);
  indexed = λ len bodies segments k. (indexed len bodies segments k, indexed_back len bodies segments k);
  lengths = λ all. (lengths all, lengths_back all);
}
