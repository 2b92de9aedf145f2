use Rattle.std.proofs.Common.{◌≡◌, List, [], ◌∷◌, length, sym, subst, rules}
use Rattle.rec_bytes.specs.Views.{view}
use Rattle.local_sets.specs.Sets.{items_bytes}
use Rattle.local_sets.specs.declared.set.Item.{Item}
use Rattle.mxf_metadata.specs.Sets.{timecode}
use Rattle.mxf_metadata.specs.laws.Sizes.{length_timecode}
use Rattle.mxf_metadata.proofs.sets.timecode.Goals as goal

pub returns-clause-sized : goal.returns-clause-sized
unfolding timecode
returns-clause-sized c =
    let items : List Item = c.own_id.result ∷ c.new.result ∷ c.new-2.result ∷ c.new-3.result ∷ c.new-4.result ∷ c.new-5.result ∷ [] in
    let is : items ≡ timecode (view c.args.cfg.now) c.args.ids.now c.args.number c.args.frames = search rules in
    subst (λ (list : List Item). length (items_bytes list) ≡ 75) (sym is) (length_timecode (view c.args.cfg.now) c.args.ids.now c.args.number c.args.frames c.show_sizes.ensures)
