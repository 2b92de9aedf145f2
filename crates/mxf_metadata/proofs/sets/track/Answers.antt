use Rattle.std.proofs.Common.{◌≡◌, List, [], ◌∷◌, length, sym, subst, rules}
use Rattle.rec_bytes.specs.Views.{view}
use Rattle.local_sets.specs.Sets.{items_bytes}
use Rattle.local_sets.specs.declared.set.Item.{Item}
use Rattle.mxf_metadata.specs.Sets.{track}
use Rattle.mxf_metadata.specs.laws.Sizes.{length_track}
use Rattle.mxf_metadata.proofs.sets.track.Goals as goal

pub returns-clause-sized : goal.returns-clause-sized
unfolding track
returns-clause-sized c =
    let items : List Item = c.own_id.result ∷ c.new.result ∷ c.new-2.result ∷ c.new-3.result ∷ c.new-4.result ∷ c.new-5.result ∷ [] in
    let is : items ≡ track (view c.args.cfg.now) c.args.ids.now c.args.number c.args.track_id c.args.track_number = search rules in
    subst (λ (list : List Item). length (items_bytes list) ≡ 80) (sym is) (length_track (view c.args.cfg.now) c.args.ids.now c.args.number c.args.track_id c.args.track_number c.show_sizes.ensures)
