use Rattle.slice_codec.proofs.LeastLemmas.{none_least}
use Rattle.slice_codec.proofs.search.Bounds.none.Goals as goal

pub returns-clause-least : goal.returns-clause-least
returns-clause-least c = λ scale y cb cr. record {
  y_least = none_least scale y c.none-least.result c.none-least.ensures.bits c.none-least.ensures.left;
  cb_least = none_least scale cb c.none-least.result c.none-least.ensures.bits c.none-least.ensures.left;
  cr_least = none_least scale cr c.none-least.result c.none-least.ensures.bits c.none-least.ensures.left;
}
