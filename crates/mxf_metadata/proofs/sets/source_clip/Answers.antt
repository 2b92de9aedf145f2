use Rattle.std.proofs.Common.{◌≡◌, List, [], ◌∷◌, length, sym, subst, rules}
use Rattle.local_sets.specs.Sets.{items_bytes}
use Rattle.local_sets.specs.declared.set.Item.{Item}
use Rattle.mxf_metadata.specs.Sets.{source_clip}
use Rattle.mxf_metadata.specs.laws.Sizes.{length_source_clip}
use Rattle.mxf_metadata.proofs.sets.source_clip.Goals as goal

pub returns-clause-sized : goal.returns-clause-sized
unfolding source_clip
returns-clause-sized c =
    let items : List Item = c.own_id.result ∷ c.new.result ∷ c.new-2.result ∷ c.new-3.result ∷ c.new-4.result ∷ c.new-5.result ∷ [] in
    let is : items ≡ source_clip c.args.ids.now c.args.number c.args.frames c.args.source.now c.args.track_id = search rules in
    subst (λ (list : List Item). length (items_bytes list) ≡ 108) (sym is) (length_source_clip c.args.ids.now c.args.number c.args.frames c.args.source.now c.args.track_id c.show_sizes.ensures c.told-source)
