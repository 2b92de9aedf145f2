use Rattle.std.proofs.Common.{ℕ, ◌+◌, ◌<◌, length, refl, sym, subst, ◌∙◌, arith}
use Rattle.rec_bytes.specs.Views.{view}
use Rattle.std.specs.List.{length_refill}
use Rattle.slice_desk.specs.Desks.{DeskSeen, AreIn}
use Rattle.slice_desk.specs.Slices.{slices_of}
use Rattle.slice_desk.specs.inner.Joins.{AreThere}
use Rattle.slice_desk.specs.inner.Keeping.{IsSpan}
use Rattle.slice_desk.proofs.ShelfLemmas.{lowest_there, lowest_offered}
use Rattle.slice_desk.proofs.DeskLemmas.{frame_left}
use Rattle.slice_desk.proofs.desk.Desk.take_frame.Goals as goal

pub put_frame-len-requires-clause-there : goal.put_frame-len-requires-clause-there
put_frame-len-requires-clause-there g c =
    let d = c.self.inside in let i = c.self.invariant in let slices : ℕ = slices_of g.P.DeskName.config in
    let all : AreIn d.shelf d.lowest slices = subst (λ (v : DeskSeen). AreIn v.kept v.lowest slices) (sym c.self.view_is) (c.complete.ensures.0 c.if-not-complete.false) in
    subst (AreThere d.shelf d.lowest) i.counted
    (lowest_there d.slices d.lowest d.offered d.shelf i.span.most i.places i.placed (subst (AreIn d.shelf d.lowest) (sym i.counted) all))

pub empty_frame-requires : goal.empty_frame-requires
empty_frame-requires g c =
    let d = c.self.inside in let i = c.self.invariant in let slices : ℕ = slices_of g.P.DeskName.config in
    let all : AreIn d.shelf d.lowest slices = subst (λ (v : DeskSeen). AreIn v.kept v.lowest slices) (sym c.self.view_is) (c.complete.ensures.0 c.if-not-complete.false) in
    record { there = lowest_there d.slices d.lowest d.offered d.shelf i.span.most i.places i.placed (subst (AreIn d.shelf d.lowest) (sym i.counted) all) }

pub overflow_add-self : goal.overflow_add-self
overflow_add-self g c =
    let d = c.self.inside in let i = c.self.invariant in let slices : ℕ = slices_of g.P.DeskName.config in
    let all : AreIn d.shelf d.lowest slices = subst (λ (v : DeskSeen). AreIn v.kept v.lowest slices) (sym c.self.view_is) (c.complete.ensures.0 c.if-not-complete.false) in
    let more : d.lowest < d.offered = lowest_offered d.slices d.lowest d.offered d.shelf i.span.some i.placed (subst (AreIn d.shelf d.lowest) (sym i.counted) all) in
    omega (arith, more, i.span.small)

pub invariant_of-self : goal.invariant_of-self
invariant_of-self g c =
    let d = c.self.inside in let i = c.self.invariant in let slices : ℕ = slices_of g.P.DeskName.config in
    let all : AreIn d.shelf d.lowest slices = subst (λ (v : DeskSeen). AreIn v.kept v.lowest slices) (sym c.self.view_is) (c.complete.ensures.0 c.if-not-complete.false) in
    let more : d.lowest < d.offered = lowest_offered d.slices d.lowest d.offered d.shelf i.span.some i.placed (subst (AreIn d.shelf d.lowest) (sym i.counted) all) in
    let left = c.empty_frame.ensures in
    let sized = sym (length_refill d.sizes.len d.sizes.items c.put_frame-len.new.sizes d.sizes.ok.0) ∙ d.sizes.ok.0 in
    let span : IsSpan d.slices (d.lowest + 1) d.offered (d.lowest + 1) 0 = record {
      some = i.span.some;
      order = omega (arith, more);
      most = omega (arith, i.span.most);
      small = i.span.small;
      from = omega arith;
      to = omega (arith, more, i.span.to);
      within = omega (arith, i.span.some, i.span.within);
      begins = λ e. refl;
    } in
    frame_left g.N.Feed.bytes g.P.DeskName.config (view d.config) d.slices d.lowest d.offered d.next_frame d.next_index (d.lowest + 1) 0 d.pictures.items d.shelf
    c.empty_frame.new.self (length d.sizes.items) _ i span left.long left.left sized

pub invariant_of-self-else-self : goal.invariant_of-self-else-self
invariant_of-self-else-self g c =
    let d = c.self.inside in let i = c.self.invariant in let slices : ℕ = slices_of g.P.DeskName.config in
    let all : AreIn d.shelf d.lowest slices = subst (λ (v : DeskSeen). AreIn v.kept v.lowest slices) (sym c.self.view_is) (c.complete.ensures.0 c.if-not-complete.false) in
    let more : d.lowest < d.offered = lowest_offered d.slices d.lowest d.offered d.shelf i.span.some i.placed (subst (AreIn d.shelf d.lowest) (sym i.counted) all) in
    let left = c.empty_frame.ensures in
    let sized = sym (length_refill d.sizes.len d.sizes.items c.put_frame-len.new.sizes d.sizes.ok.0) ∙ d.sizes.ok.0 in
    let span : IsSpan d.slices (d.lowest + 1) d.offered d.next_frame d.next_index = record {
      some = i.span.some;
      order = omega (arith, more);
      most = omega (arith, i.span.most);
      small = i.span.small;
      from = omega (arith, c.if-self.false);
      to = i.span.to;
      within = i.span.within;
      begins = i.span.begins;
    } in
    frame_left g.N.Feed.bytes g.P.DeskName.config (view d.config) d.slices d.lowest d.offered d.next_frame d.next_index d.next_frame d.next_index d.pictures.items d.shelf
    c.empty_frame.new.self (length d.sizes.items) _ i span left.long left.left sized
