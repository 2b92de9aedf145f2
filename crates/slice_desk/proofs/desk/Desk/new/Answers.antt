use Rattle.std.proofs.Common.{◌≡◌, ℕ, ◌*◌, length, replicate, refl, sym, ap, subst, ◌∙◌, arith}
use Rattle.std.proofs.lemmas.List.{length-replicate}
use Rattle.rec_bytes.specs.Configuration.{Fields}
use Rattle.rec_bytes.specs.Ranges.{IsInRange}
use Rattle.picture_plane.specs.Slices.{Size, slices_per_picture}
use Rattle.slice_desk.specs.Slices.{slices_of, slices_in_picture}
use Rattle.slice_desk.specs.inner.Keeping.{ArePictures}
use Rattle.slice_desk.proofs.RoomLemmas.{some_slices}
use Rattle.slice_desk.proofs.ShelfLemmas.{none_placed}
use Rattle.slice_desk.proofs.desk.Desk.new.Goals as goal

pub invariant_of-result : goal.invariant_of-result
invariant_of-result g c =
    let slices : ℕ = c.slice_count-slices.result in
    let counted : slices ≡ slices_of g.P.DeskName.config = c.slice_count-slices.ensures.value ∙ ap slices_of c.requires.config in
    let some = some_slices g.P.DeskName.config (subst IsInRange c.requires.config c.ranges-2.ensures) in
    let empty : c.in_ok-shelf.shelf ≡ replicate (4 * slices) _ = c.in_ok-shelf.ensures in
    record {
      configured = c.requires.config;
      counted = counted;
      span = record {
        some = omega (arith, some, counted);
        order = omega arith;
        most = omega arith;
        small = omega arith;
        from = omega arith;
        to = omega arith;
        within = omega (arith, some, counted);
        begins = λ e. refl;
      };
      pictured = subst (λ (f : Fields). ArePictures f c.in_ok-pictures.pictures.items) c.requires.config c.in_ok-pictures.ensures;
      told_are = λ frame picture low high is_told. absurd (omega (arith, high));
      places = ap length empty ∙ length-replicate (4 * slices) _;
      placed = none_placed slices 0 0 (4 * slices) c.in_ok-shelf.shelf empty;
      sized = sym c.in_ok-sizes.sizes.ok.0 ∙ (c.in_ok-sizes.ensures.len
          ∙ (c.picture_slices-count.ensures.value ∙ (ap (λ (s : Size). slices_per_picture s c.args.cfg.now.log2) c.of.ensures ∙ ap slices_in_picture c.requires.config)));
    }
