use Rattle.std.proofs.Common.{◌≡◌, length, sym, ap, subst, ◌∙◌, arith}
use Rattle.rec_bytes.specs.Views.{view}
use Rattle.rec_bytes.specs.declared.config.Config.{Config}
use Rattle.picture_plane.specs.Slices.{Size, slices_per_picture}
use Rattle.frame_syntax.specs.Written.{frame_room_of}
use Rattle.frame_codec.specs.inner.Rooms.{HasRoom}
use Rattle.frame_codec.proofs.RoomLemmas.{frame_room_small}
use Rattle.frame_codec.proofs.encoder.FrameEncoder.new.Goals as goal

pub invariant_of-result : goal.invariant_of-result
invariant_of-result c =
    let config = c.args.cfg.now in
    let buffer : length c.in_ok-buffer.buffer.items ≡ frame_room_of (view config) = sym c.in_ok-buffer.buffer.ok.0 ∙ (c.in_ok-buffer.ensures.len ∙ c.frame_room.ensures) in
    subst (λ (k : Config). HasRoom (view k) (length c.in_ok-sizes.sizes.items) (length c.in_ok-buffer.buffer.items) 0) (sym c.new.ensures)
    (record {
      sizes_are = sym c.in_ok-sizes.sizes.ok.0 ∙ (c.in_ok-sizes.ensures.len ∙ (c.picture_slices-count.ensures.value ∙ ap (λ (size : Size). slices_per_picture size config.log2) c.of.ensures));
      buffer_is = buffer;
      within = omega arith;
      most = omega (arith, buffer, frame_room_small (view config) c.ranges-2.ensures);
    })
