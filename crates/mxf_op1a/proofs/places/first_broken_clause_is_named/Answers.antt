use Rattle.mxf_op1a.proofs.FirstBrokenLemmas.{bytes_break, first_breaks}
use Rattle.mxf_op1a.proofs.WrongSetLemmas.{metadata_breaks, metadata_breaks_back}
use Rattle.mxf_op1a.proofs.places.first_broken_clause_is_named.Goals as goal

pub returns : goal.returns
returns c = record {
  metadata = λ len file at. (metadata_breaks len file at, metadata_breaks_back len file at);
  first = first_breaks;
  file = bytes_break c.outlines_are_one.ensures.items;
}
