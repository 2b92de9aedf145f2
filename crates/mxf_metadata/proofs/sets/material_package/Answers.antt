use Rattle.std.proofs.Common.{◌≡◌, List, [], ◌∷◌, length, sym, subst, rules}
use Rattle.local_sets.specs.Sets.{items_bytes}
use Rattle.local_sets.specs.declared.set.Item.{Item}
use Rattle.mxf_metadata.specs.Sets.{material_package}
use Rattle.mxf_metadata.specs.laws.Sizes.{length_material_package}
use Rattle.mxf_metadata.proofs.sets.material_package.Goals as goal

pub returns-clause-sized : goal.returns-clause-sized
unfolding material_package
returns-clause-sized c =
    let items : List Item = c.own_id.result ∷ c.new.result ∷ c.new-2.result ∷ c.new-3.result ∷ c.new-4.result ∷ [] in
    let is : items ≡ material_package c.args.ids.now = search rules in
    subst (λ (list : List Item). length (items_bytes list) ≡ 124) (sym is) (length_material_package c.args.ids.now c.show_sizes.ensures)
