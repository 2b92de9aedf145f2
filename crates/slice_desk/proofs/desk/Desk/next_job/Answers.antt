use Rattle.std.proofs.Common.{◌≡◌, ℕ, ◌%◌, ◌<◌, length, get_or, sym, ap, subst, ◌∙◌, arith}
use Rattle.std.proofs.lemmas.List.{get_or_read_under}
use Rattle.rec_bytes.specs.Configuration.{Fields}
use Rattle.rec_bytes.specs.Views.{view}
use Rattle.picture_plane.specs.Pictures.{Planes, zeros}
use Rattle.picture_plane.specs.Sizes.{size_of}
use Rattle.picture_plane.specs.Slices.{Size, FitsSize, IsFrameSlice}
use Rattle.slice_desk.proofs.NameLemmas.{samples_for}
use Rattle.slice_desk.proofs.desk.Desk.next_job.Goals as goal

pub cut_slice-requires : goal.cut_slice-requires
cut_slice-requires g c =
    let d = c.self.inside in let i = c.self.invariant in let config = g.P.DeskName.config in let items = d.pictures.items in
    let at : ℕ = d.next_frame % 4 in
    let found : c.index.result.now ≡ get_or items at (zeros (size_of config)) =
    get_or_read_under items at (length items) c.index.result.now (zeros (size_of config)) c.index.ensures (omega (arith, i.pictured.four)) (λ i. length items) in
    let size : size_of (view d.config) ≡ c.index.result.now.size =
    ap size_of i.configured ∙ sym (ap (λ (p : Planes). p.size) found ∙ i.pictured.sized at (omega arith)) in
    subst (λ (s : Size). FitsSize s c.slice_name-name.result) size c.slice_name-name.ensures.fits

pub invariant_of-result : goal.invariant_of-result
invariant_of-result g c =
    let d = c.self.inside in let i = c.self.invariant in let config = g.P.DeskName.config in let items = d.pictures.items in
    let at : ℕ = d.next_frame % 4 in
    let found : c.index.result.now ≡ get_or items at (zeros (size_of config)) =
    get_or_read_under items at (length items) c.index.result.now (zeros (size_of config)) c.index.ensures (omega (arith, i.pictured.four)) (λ i. length items) in
    let high : d.next_frame < d.offered = omega (arith, i.span.to, c.if-self.false) in
    let named = subst (λ (f : Fields). IsFrameSlice (size_of f) f.log2 d.next_index c.slice_name-name.result) i.configured c.slice_name-name.ensures.named in
    record {
      within = omega (arith, i.span.within, i.counted);
      own = samples_for g.N.Feed.bytes config d.lowest d.offered d.next_frame d.next_index items c.index.result.now c.slice_name-name.result c.cut_slice.new.out
          i.told_are i.span.from high found named c.cut_slice.ensures;
    }
