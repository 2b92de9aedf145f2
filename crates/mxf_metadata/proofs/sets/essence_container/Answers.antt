use Rattle.std.proofs.Common.{◌≡◌, List, [], ◌∷◌, length, sym, subst, rules}
use Rattle.local_sets.specs.Sets.{items_bytes}
use Rattle.local_sets.specs.declared.set.Item.{Item}
use Rattle.mxf_metadata.specs.Sets.{essence_container}
use Rattle.mxf_metadata.specs.laws.Sizes.{length_essence_container}
use Rattle.mxf_metadata.proofs.sets.essence_container.Goals as goal

pub returns-clause-sized : goal.returns-clause-sized
unfolding essence_container
returns-clause-sized c =
    let items : List Item = c.own_id.result ∷ c.new.result ∷ c.new-2.result ∷ c.new-3.result ∷ [] in
    let is : items ≡ essence_container c.args.ids.now = search rules in
    subst (λ (list : List Item). length (items_bytes list) ≡ 72) (sym is) (length_essence_container c.args.ids.now c.show_sizes.ensures)
