use Rattle.local_sets.proofs.ItemLemmas.{first_is_one, list_is_one, ours}
use Rattle.local_sets.proofs.laws.set_items_are_unique.Goals as goal

pub returns : goal.returns
returns c = record { first = first_is_one; unique = list_is_one; ours = ours }
