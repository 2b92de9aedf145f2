use Rattle.std.proofs.Common.{◌≡◌, List, [], ◌∷◌, length, sym, subst, rules}
use Rattle.local_sets.specs.Sets.{items_bytes}
use Rattle.local_sets.specs.declared.set.Item.{Item}
use Rattle.mxf_metadata.specs.Sets.{sequence}
use Rattle.mxf_metadata.specs.laws.Sizes.{length_sequence}
use Rattle.mxf_metadata.proofs.sets.sequence.Goals as goal

pub returns-clause-sized : goal.returns-clause-sized
unfolding sequence
returns-clause-sized c =
    let items : List Item = c.own_id.result ∷ c.new.result ∷ c.new-2.result ∷ c.new-3.result ∷ [] in
    let is : items ≡ sequence c.args.ids.now c.args.number c.args.kind.now c.args.frames = search rules in
    subst (λ (list : List Item). length (items_bytes list) ≡ 80) (sym is) (length_sequence c.args.ids.now c.args.number c.args.kind.now c.args.frames c.show_sizes.ensures c.told-kind)
