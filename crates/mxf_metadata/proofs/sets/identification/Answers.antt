use Rattle.std.proofs.Common.{◌≡◌, List, [], ◌∷◌, length, sym, subst, rules}
use Rattle.local_sets.specs.Sets.{items_bytes}
use Rattle.local_sets.specs.declared.set.Item.{Item}
use Rattle.mxf_metadata.specs.Sets.{identification}
use Rattle.mxf_metadata.specs.laws.Sizes.{length_identification}
use Rattle.mxf_metadata.proofs.sets.identification.Goals as goal

pub returns-clause-sized : goal.returns-clause-sized
unfolding identification
returns-clause-sized c =
    let items : List Item = c.own_id.result ∷ c.new.result ∷ c.new-2.result ∷ c.new-3.result ∷ c.new-4.result ∷ c.new-5.result ∷ c.new-6.result ∷ [] in
    let is : items ≡ identification c.args.ids.now = search rules in
    subst (λ (list : List Item). length (items_bytes list) ≡ 124) (sym is) (length_identification c.args.ids.now c.show_sizes.ensures)
