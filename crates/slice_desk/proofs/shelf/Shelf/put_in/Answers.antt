use Rattle.std.proofs.Common.{Some, set, ap, ◌∙◌}
use Rattle.std.proofs.lemmas.List.{map-set}
use Rattle.slice_desk.specs.inner.Keeping.{key, keys}
use Rattle.slice_desk.proofs.shelf.Shelf.put_in.Goals as goal

pub returns : goal.returns
returns g c =
    let items = c.self.inside.places.items in let at = c.args.at in
    map-set key items at c.replace-before.new.dest ∙ ap (λ x. set (keys items) at (key x)) c.replace-before.ensures.after ∙ ap (λ l. set l at (Some (c.args.done.frame, c.args.done.index))) c.self.view_is
