use Rattle.std.proofs.Common.{◌≡◌, List, [], ◌∷◌, length, sym, subst, rules}
use Rattle.local_sets.specs.Sets.{items_bytes}
use Rattle.local_sets.specs.declared.set.Item.{Item}
use Rattle.mxf_metadata.specs.Sets.{preface}
use Rattle.mxf_metadata.specs.laws.Sizes.{length_preface}
use Rattle.mxf_metadata.proofs.sets.preface.Goals as goal

pub returns-clause-sized : goal.returns-clause-sized
unfolding preface
returns-clause-sized c =
    let items : List Item = c.own_id.result ∷ c.new.result ∷ c.new-2.result ∷ c.new-3.result ∷ c.new-4.result ∷ c.new-5.result ∷ c.new-6.result ∷ c.new-7.result ∷ c.new-8.result ∷ [] in
    let is : items ≡ preface c.args.ids.now = search rules in
    subst (λ (list : List Item). length (items_bytes list) ≡ 154) (sym is) (length_preface c.args.ids.now c.show_sizes.ensures)
