use Rattle.std.proofs.Common.{None, set, ap, ◌∙◌}
use Rattle.std.proofs.lemmas.List.{map-set}
use Rattle.slice_desk.specs.inner.Keeping.{key, keys}
use Rattle.slice_desk.proofs.shelf.Shelf.take_out.Goals as goal

pub returns-clause-left : goal.returns-clause-left
returns-clause-left g c =
    let items = c.self.inside.places.items in let at = c.args.at in
    map-set key items at c.replace.new.dest ∙ ap (λ x. set (keys items) at (key x)) c.replace.ensures.after ∙ ap (λ l. set l at None) c.self.view_is
