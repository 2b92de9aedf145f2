use Rattle.std.proofs.Common.{◌≡◌, ◌%◌, ◌<◌, ◌+◌, sym, ap, subst, ◌∙◌, arith}
use Rattle.picture_plane.specs.Pictures.{Planes}
use Rattle.picture_plane.specs.Sizes.{size_of}
use Rattle.slice_desk.specs.Desks.{DeskSeen}
use Rattle.slice_desk.specs.Told.{IsTold}
use Rattle.slice_desk.proofs.PictureLemmas.{pictures_set, told_more}
use Rattle.slice_desk.proofs.desk.Desk.offer.Goals as goal

pub invariant_of-self : goal.invariant_of-self
invariant_of-self g c =
    let d = c.self.inside in let i = c.self.invariant in let picture = c.args.picture.now in let told = g.N.Feed.bytes in let config = g.P.DeskName.config in
    let room : d.offered < d.lowest + 4 = omega (arith, i.span.most, i.span.order, c.if-self-eq-FLIGHT.false) in
    let next : (other : Planes) → IsTold told config d.offered other → picture ≡ other =
    subst (λ (v : DeskSeen). (other : Planes) → IsTold told config v.offered other → picture ≡ other) (sym c.self.view_is) c.requires.next in
    let copied : Planes = c.copy_from.new.self in
    let is : copied ≡ picture = c.copy_from.ensures in
    let sized : copied.size ≡ size_of config = ap (λ (p : Planes). p.size) is ∙ c.requires.sized in
    record {
      configured = i.configured;
      counted = i.counted;
      span = record {
        some = i.span.some;
        order = omega (arith, i.span.order);
        most = omega (arith, room);
        small = omega (arith, c.requires.numbered, ap (λ (v : DeskSeen). v.offered) c.self.view_is);
        from = i.span.from;
        to = omega (arith, i.span.to);
        within = i.span.within;
        begins = λ e. absurd (omega (arith, e, i.span.to));
      };
      pictured = pictures_set config d.pictures.items (d.offered % 4) copied (omega arith) sized i.pictured;
      told_are = told_more told config d.lowest d.offered d.pictures.items copied i.pictured.four room (λ other is_told. is ∙ next other is_told) i.told_are;
      places = i.places;
      placed = λ k frame index e. let is = i.placed k frame index e in (is.0, is.1, omega (arith, is.2), is.3);
      sized = i.sized;
    }
