use Rattle.std.proofs.Common.{◌≡◌, List, [], ◌∷◌, length, sym, subst, rules}
use Rattle.local_sets.specs.Sets.{items_bytes}
use Rattle.local_sets.specs.declared.set.Item.{Item}
use Rattle.mxf_metadata.specs.Sets.{content_storage}
use Rattle.mxf_metadata.specs.laws.Sizes.{length_content_storage}
use Rattle.mxf_metadata.proofs.sets.content_storage.Goals as goal

pub returns-clause-sized : goal.returns-clause-sized
unfolding content_storage
returns-clause-sized c =
    let items : List Item = c.own_id.result ∷ c.new.result ∷ c.new-2.result ∷ [] in
    let is : items ≡ content_storage c.args.ids.now = search rules in
    subst (λ (list : List Item). length (items_bytes list) ≡ 92) (sym is) (length_content_storage c.args.ids.now c.show_sizes.ensures)
