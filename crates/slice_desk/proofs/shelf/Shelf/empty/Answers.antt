use Rattle.std.proofs.Common.{◌≡◌, sym, ap, ◌∙◌, arith}
use Rattle.slice_desk.specs.Desks.{in_count}
use Rattle.slice_desk.proofs.CountLemmas.{count_last, count_keys, count_none}
use Rattle.slice_desk.proofs.shelf.Shelf.empty.Goals as goal

pub loop-preserved : goal.loop-preserved
loop-preserved g c =
    let l = c.loop in let freed = c.give_back.ensures in
    let last = ap (λ xs. in_count xs) c.in-Some.ensures.items ∙ count_last c.pop.new.self.items c.in-Some.kept in
    record {
      free = omega (arith, l.invariant.free, freed.more_free, last);
      live = omega (arith, l.invariant.live, freed.fewer_live, last);
      len = omega (arith, l.invariant.len, c.in-Some.ensures.len);
    }

pub returns : goal.returns
returns g c =
    let l = c.loop in let items = c.self.inside.places.items in
    let gone = count_none l.places.items (omega (arith, l.invariant.len, c.loop-test.false, l.places.ok)) in
    let all : in_count items ≡ in_count c.args.self = sym (count_keys items) ∙ ap (λ xs. in_count xs) c.self.view_is in
    record { more_free = omega (arith, l.invariant.free, gone, all); fewer_live = omega (arith, l.invariant.live, gone, all) }
