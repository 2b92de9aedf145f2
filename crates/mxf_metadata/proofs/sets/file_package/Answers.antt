use Rattle.std.proofs.Common.{◌≡◌, List, [], ◌∷◌, length, sym, subst, rules}
use Rattle.local_sets.specs.Sets.{items_bytes}
use Rattle.local_sets.specs.declared.set.Item.{Item}
use Rattle.mxf_metadata.specs.Sets.{file_package}
use Rattle.mxf_metadata.specs.laws.Sizes.{length_file_package}
use Rattle.mxf_metadata.proofs.sets.file_package.Goals as goal

pub returns-clause-sized : goal.returns-clause-sized
unfolding file_package
returns-clause-sized c =
    let items : List Item = c.own_id.result ∷ c.new.result ∷ c.new-2.result ∷ c.new-3.result ∷ c.new-4.result ∷ c.new-5.result ∷ [] in
    let is : items ≡ file_package c.args.ids.now = search rules in
    subst (λ (list : List Item). length (items_bytes list) ≡ 144) (sym is) (length_file_package c.args.ids.now c.show_sizes.ensures)
