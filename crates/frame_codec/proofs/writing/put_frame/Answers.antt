use Rattle.std.proofs.Common.{◌≡◌, ◌≤◌, ◌+◌, length, take, ℕ, List, ap, ◌∙◌, arith}
use Rattle.rec_bytes.specs.Places.{with_bytes}
use Rattle.rec_bytes.specs.Views.{view}
use Rattle.picture_plane.specs.Sizes.{size_of}
use Rattle.slice_codec.specs.Views.{as_setup}
use Rattle.frame_syntax.specs.Written.{head_of, frame_front, pictures_bytes}
use Rattle.frame_syntax.specs.declared.frame_head.FrameHead.{FrameHead}
use Rattle.frame_codec.proofs.RoomLemmas.{frame_room_small}
use Rattle.frame_codec.proofs.BytesLemmas.{end_of, put_before}
use Rattle.frame_codec.proofs.FrameLemmas.{front_len, frame_is}
use Rattle.frame_codec.proofs.writing.put_frame.Goals as goal

pub overflow_cast-end : goal.overflow_cast-end
overflow_cast-end g c =
    let sized = ap (λ (h : FrameHead). h.head_size) c.head_of-head.ensures in
    omega (arith, sized, c.from-first_at.ensures, c.put_pictures-end.ensures.most, frame_room_small (view c.args.config.now) c.ranges-2.ensures)

pub returns-clause-coded : goal.returns-clause-coded
returns-clause-coded g c =
    let fields = view c.args.config.now in
    let setup = c.of-setup.ensures.setup in
    let luma : List ℕ = c.of-setup.result.luma in
    let chroma : List ℕ = c.of-setup.result.chroma in
    let head : FrameHead = head_of fields luma chroma in
    let sized = ap (λ (h : FrameHead). h.head_size) c.head_of-head.ensures in
    let put = c.put_pictures-end.ensures.put in
    let old : List ℕ = c.args.out.now in
    let mid : List ℕ = c.put_pictures-end.new.out in
    let end : ℕ = c.put_pictures-end.result in
    let start : ℕ = 8 + c.from-first_at.result in
    let pictures : List ℕ = pictures_bytes (size_of fields) fields.log2 put.slices in
    let begins : start ≡ 0 + length (frame_front head end) =
    omega (arith, sized, c.from-first_at.ensures, front_len fields luma chroma end c.ranges-2.ensures.encoder setup.luma_long setup.chroma_long) in
    let start_most : start ≤ length old = omega (arith, sized, c.from-first_at.ensures, c.requires.room) in
    let end_most : end ≤ length mid = omega (arith, sized, c.from-first_at.ensures, c.put_pictures-end.ensures.most, c.requires.room, c.put_pictures-end.auto.out) in
    let ends = end_of old mid start end pictures start_most end_most put.put in
    let before = front_len fields luma chroma 0 c.ranges-2.ensures.encoder setup.luma_long setup.chroma_long in
    let whole : end ≡ length (frame_front head 0) + length pictures = omega (arith, sized, c.from-first_at.ensures, ends, before) in
    record {
      setup = as_setup c.of-setup.result;
      of_configuration = setup;
      slices = put.slices;
      coded = put.coded;
      joined = ap (take end) (c.put_frame_front.ensures.written ∙ ap (λ (h : FrameHead). with_bytes mid 0 (frame_front h end)) c.head_of-head.ensures)
          ∙ (put_before old mid 0 start end (frame_front head end) pictures begins start_most end_most put.put ∙ frame_is head fields.log2 end put.slices whole);
    }
