use Rattle.std.proofs.Common.{sym, subst}
use Rattle.picture_plane.specs.Pictures.{Planes}
use Rattle.frame_codec.specs.Frames.{number_of}
use Rattle.frame_codec.specs.inner.Decoding.{AreShown}
use Rattle.frame_codec.proofs.CodedPictureLemmas.{all_of_one, all_of_two, first_coded, second_coded}
use Rattle.frame_codec.proofs.DecodingLemmas.{all_shown}
use Rattle.frame_codec.proofs.decoder.decode_pictures.Goals as goal
use Rattle.frame_codec.proofs.decoder.decode_pictures.Goals.{in-Some+in_ok-decode_picture-2, in_default}

pub decode_picture-requires-clause-coded : goal.decode_picture-requires-clause-coded
decode_picture-requires-clause-coded g c =
    let bytes = c.args.bytes.now in
    let parts = c.args.parts.now in
    first_coded bytes parts c.requires.whole.frame (c.refusals_are_exact.ensures.counted bytes parts c.requires.whole.frame)

pub decode_picture-requires-in-Some-clause-coded : goal.decode_picture-requires-in-Some-clause-coded
decode_picture-requires-in-Some-clause-coded g c =
    let bytes = c.args.bytes.now in
    let parts = c.args.parts.now in
    second_coded bytes parts c.in-Some.second c.requires.whole.frame (c.refusals_are_exact.ensures.counted bytes parts c.requires.whole.frame) c.in-Some.is

pub returns-clause-means : goal.returns-clause-means
returns-clause-means g c =
    let bytes = c.args.bytes.now in
    let parts = c.args.parts.now in
    elim c.match-parts.branch [
      | in-Some+in_ok-decode_picture-2 w ↦
          let index = number_of parts 1 w.in-Some.second.slices in
          let shown : AreShown bytes parts c.match-parts.out index = subst (λ (p : Planes). AreShown bytes parts p index) (sym w.out-is) w.in_ok-decode_picture-2.ensures.reached.shown in
          all_shown bytes parts c.match-parts.out index c.requires.whole c.ranges-2.ensures shown (all_of_two bytes parts w.in-Some.second c.requires.whole.frame w.in-Some.is)
      | in_default w ↦
          let index = number_of parts 0 parts.first.slices in
          let shown : AreShown bytes parts c.match-parts.out index = subst (λ (p : Planes). AreShown bytes parts p index) (sym w.out-is) c.in_ok-decode_picture.ensures.reached.shown in
          all_shown bytes parts c.match-parts.out index c.requires.whole c.ranges-2.ensures shown (all_of_one bytes parts c.requires.whole.frame w.in_default.is)
    ]
