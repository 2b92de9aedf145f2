use Rattle.std.proofs.Common.{◌≡◌, ℕ, ◌<◌, ◌≤◌, length, set, Some, ap, ap₂, sym, subst, ◌∙◌, arith, length-set}
use Rattle.slice_desk.specs.Desks.{place_of}
use Rattle.slice_desk.specs.inner.Keeping.{ArePlaced}
use Rattle.slice_desk.proofs.ShelfLemmas.{placed_more}
use Rattle.slice_desk.proofs.desk.Desk.hand_in.Goals as goal

pub invariant_of-self : goal.invariant_of-self
invariant_of-self g c =
    let d = c.self.inside in let i = c.self.invariant in let f : ℕ = c.args.done.frame in let index : ℕ = c.args.done.index in
    let at : c.place-at.result ≡ place_of f index = c.place-at.ensures ∙ ap₂ place_of c.frame-frame.ensures c.index-index.ensures in
    let made : c.put_in.new.self ≡ set d.shelf (place_of f index) (Some (f, index)) = c.put_in.ensures ∙ ap (λ (k : ℕ). set d.shelf k (Some (f, index))) at in
    let low : d.lowest ≤ f = omega (arith, c.frame-frame.ensures, c.if-frame-self.false) in
    let high : f < d.offered = omega (arith, c.frame-frame.ensures, c.if-frame-self-2.false) in
    let within : index < d.slices = omega (arith, c.index-index.ensures, c.if-index-self.false) in
    let long : place_of f index < length d.shelf = omega (arith, i.places, within) in
    record {
      configured = i.configured;
      counted = i.counted;
      span = i.span;
      pictured = i.pictured;
      told_are = i.told_are;
      places = ap length made ∙ length-set d.shelf (place_of f index) (Some (f, index)) ∙ i.places;
      placed = subst (ArePlaced d.slices d.lowest d.offered) (sym made) (placed_more d.slices d.lowest d.offered d.shelf f index low high within long i.placed);
      sized = i.sized;
    }
