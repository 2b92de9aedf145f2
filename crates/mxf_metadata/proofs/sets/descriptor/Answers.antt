use Rattle.std.proofs.Common.{◌≡◌, List, [], ◌∷◌, length, sym, subst, rules}
use Rattle.rec_bytes.specs.Views.{view}
use Rattle.local_sets.specs.Sets.{items_bytes}
use Rattle.local_sets.specs.declared.set.Item.{Item}
use Rattle.mxf_metadata.specs.Sets.{descriptor}
use Rattle.mxf_metadata.specs.laws.Sizes.{length_descriptor}
use Rattle.mxf_metadata.proofs.sets.descriptor.Goals as goal

pub returns-clause-sized : goal.returns-clause-sized
unfolding descriptor
returns-clause-sized c =
    let items : List Item = c.own_id.result ∷ c.new.result ∷ c.new-2.result ∷ c.new-3.result ∷ c.new-4.result ∷ c.new-5.result ∷ c.new-6.result ∷ c.new-7.result ∷ c.new-8.result ∷ c.new-9.result ∷ c.new-10.result ∷ c.new-11.result ∷ [] in
    let is : items ≡ descriptor (view c.args.cfg.now) c.args.ids.now c.args.frames = search rules in
    subst (λ (list : List Item). length (items_bytes list) ≡ 141) (sym is) (length_descriptor (view c.args.cfg.now) c.args.ids.now c.args.frames c.show_sizes.ensures)
