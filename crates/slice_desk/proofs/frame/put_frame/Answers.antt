use Rattle.std.proofs.Common.{◌≡◌, ◌≤◌, ◌+◌, length, take, ℕ, List, ap, subst, ◌∙◌, arith}
use Rattle.rec_bytes.specs.Configuration.{Fields}
use Rattle.rec_bytes.specs.Ranges.{IsInRange}
use Rattle.rec_bytes.specs.Places.{with_bytes}
use Rattle.picture_plane.specs.Sizes.{size_of}
use Rattle.slice_codec.specs.Setups.{IsSetup}
use Rattle.slice_codec.specs.Views.{as_setup}
use Rattle.frame_syntax.specs.Written.{head_of, frame_front, pictures_bytes}
use Rattle.frame_syntax.specs.declared.frame_head.FrameHead.{FrameHead}
use Rattle.slice_desk.proofs.RoomLemmas.{frame_room_small}
use Rattle.slice_desk.proofs.BytesLemmas.{end_of, put_before}
use Rattle.slice_desk.proofs.FrontLemmas.{front_len, frame_is}
use Rattle.slice_desk.proofs.SlicesLemmas.{slices_of_picture}
use Rattle.slice_desk.proofs.frame.put_frame.Goals as goal

pub overflow_cast-end : goal.overflow_cast-end
overflow_cast-end g c =
    let r = subst IsInRange c.requires.named c.ranges-2.ensures in
    let head = c.head_of-head.ensures ∙ ap (λ (f : Fields). head_of f c.of-setup.result.luma c.of-setup.result.chroma) c.requires.named in
    omega (arith, ap (λ (h : FrameHead). h.head_size) head, c.from-first_at.ensures, c.put_pictures-end.ensures.most, frame_room_small g.P.DeskName.config r)

pub returns-clause-coded : goal.returns-clause-coded
returns-clause-coded g c = λ picture is_told.
    let config = g.P.DeskName.config in
    let r = subst IsInRange c.requires.named c.ranges-2.ensures in
    let luma : List ℕ = c.of-setup.result.luma in
    let chroma : List ℕ = c.of-setup.result.chroma in
    let setup = subst (λ (f : Fields). IsSetup f (as_setup c.of-setup.result)) c.requires.named c.of-setup.ensures.setup in
    let head : FrameHead = head_of config luma chroma in
    let head_is : c.head_of-head.result ≡ head = c.head_of-head.ensures ∙ ap (λ (f : Fields). head_of f luma chroma) c.requires.named in
    let sized = ap (λ (h : FrameHead). h.head_size) head_is in
    let put = c.put_pictures-end.ensures.put in
    let old : List ℕ = c.args.out.now in
    let mid : List ℕ = c.put_pictures-end.new.out in
    let end : ℕ = c.put_pictures-end.result in
    let start : ℕ = 8 + c.from-first_at.result in
    let pictures : List ℕ = pictures_bytes (size_of config) config.log2 put.slices in
    let begins : start ≡ 0 + length (frame_front head end) =
    omega (arith, sized, c.from-first_at.ensures, front_len config luma chroma end r.encoder setup.luma_long setup.chroma_long) in
    let start_most : start ≤ length old = omega (arith, sized, c.from-first_at.ensures, c.requires.room) in
    let end_most : end ≤ length mid = omega (arith, sized, c.from-first_at.ensures, c.put_pictures-end.ensures.most, c.requires.room, c.put_pictures-end.auto.out) in
    let ends = end_of old mid start end pictures start_most end_most put.put in
    let before = front_len config luma chroma 0 r.encoder setup.luma_long setup.chroma_long in
    let whole : end ≡ length (frame_front head 0) + length pictures = omega (arith, sized, c.from-first_at.ensures, ends, before) in
    record {
      setup = as_setup c.of-setup.result;
      of_configuration = setup;
      slices = put.slices;
      coded = slices_of_picture g.N.Feed.bytes config c.args.frame put.slices picture put.coded is_told;
      joined = ap (take end) (c.put_frame_front.ensures.written ∙ ap (λ (h : FrameHead). with_bytes mid 0 (frame_front h end)) head_is)
          ∙ (put_before old mid 0 start end (frame_front head end) pictures begins start_most end_most put.put ∙ frame_is head config.log2 end put.slices whole);
    }
