use Rattle.klv.proofs.OutlineLemmas.{outline_is_one}
use Rattle.klv.proofs.outline.outlines_are_one.Goals as goal

pub returns : goal.returns
returns c = record {
  items = λ bytes a b. (outline_is_one bytes a b).0;
  rest = λ bytes a b. (outline_is_one bytes a b).1;
}
