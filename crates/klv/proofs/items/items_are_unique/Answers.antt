use Rattle.std.proofs.Common.{sym, ◌∙◌}
use Rattle.klv.proofs.ItemLemmas.{first_is_one, list_is_one, ends_inside_is_none}
use Rattle.klv.proofs.items.items_are_unique.Goals as goal

pub returns : goal.returns
returns c = record {
  first = first_is_one;
  unique = λ bytes a b p q. list_is_one a b p.each q.each (sym p.bytes_are ∙ q.bytes_are);
  whole = ends_inside_is_none;
}
