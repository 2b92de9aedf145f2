use Rattle.mxf_op1a.proofs.WrongElementLemmas.{elements_break, elements_break_back, index_breaks, index_breaks_back}
use Rattle.mxf_op1a.proofs.WrongEndLemmas.{end_breaks, end_breaks_back, kind_breaks, kind_breaks_back, name_breaks, name_breaks_back}
use Rattle.mxf_op1a.proofs.places.breaks_are_named.Goals as goal

pub returns : goal.returns
returns c = record {
  ends = λ len stop items at. (end_breaks len stop items at, end_breaks_back len stop items at);
  named = λ items all at. (name_breaks items all at, name_breaks_back items all at);
  kinds = λ len all at. (kind_breaks len all at, kind_breaks_back len all at);
  held = λ len front file at. (elements_break len front file at, elements_break_back len front file at);
  indexed = λ len bodies segments at counted. (index_breaks len bodies counted segments at, index_breaks_back len bodies counted segments at);
}
