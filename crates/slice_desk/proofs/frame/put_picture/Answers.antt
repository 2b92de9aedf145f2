use Rattle.std.proofs.Common.{◌≡◌, ◌+◌, ◌*◌, length, take, ℕ, List, sym, ap, ap₂, subst, ◌∙◌, arith}
use Rattle.std.specs.Prelude.{sum}
use Rattle.std.proofs.lemmas.List.{take_all}
use Rattle.rec_bytes.specs.Configuration.{Fields}
use Rattle.rec_bytes.specs.Ranges.{IsInRange}
use Rattle.rec_bytes.specs.Places.{with_bytes}
use Rattle.frame_syntax.specs.Written.{joined, lengths, picture_front}
use Rattle.frame_syntax.specs.laws.LengthLaws.{length-joined, length-picture_front}
use Rattle.slice_desk.specs.Slices.{slices_in_picture}
use Rattle.slice_desk.specs.inner.Joins.{AreCodedFrom}
use Rattle.slice_desk.specs.inner.Rooms.{slices_room, room_of}
use Rattle.slice_desk.proofs.RoomLemmas.{picture_small, room_all}
use Rattle.slice_desk.proofs.BytesLemmas.{end_of, put_before}
use Rattle.slice_desk.proofs.frame.put_picture.Goals as goal

-- the slices of a coded picture end inside its room
slices_within : (config : Fields) (at count : ℕ) → IsInRange config → count ≡ slices_in_picture config
    → at + 8 + 2 * count + slices_room config count ≡ at + room_of config
slices_within config at count r same = omega (arith, ap (λ (n : ℕ). slices_room config n) same, same, room_all config r)

-- their sizes are those of the slice table
all_listed : (count : ℕ) (sizes : List ℕ) (slices : List (List ℕ)) → length sizes ≡ count → take count sizes ≡ lengths slices → sizes ≡ lengths slices
all_listed count sizes slices many listed = sym (take_all count sizes (omega (arith, many))) ∙ listed

pub put_slices-end-requires-clause-ranges : goal.put_slices-end-requires-clause-ranges
put_slices-end-requires-clause-ranges g c = subst IsInRange c.requires.named c.ranges-2.ensures

pub put_slices-end-requires-clause-room : goal.put_slices-end-requires-clause-room
put_slices-end-requires-clause-room g c =
    let config = g.P.DeskName.config in let r = subst IsInRange c.requires.named c.ranges-2.ensures in
    omega (arith, c.requires.room, slices_within config c.args.at (length c.args.sizes.now) r c.requires.sized)

pub put_picture_front-requires-clause-few : goal.put_picture_front-requires-clause-few
put_picture_front-requires-clause-few g c =
    let small = picture_small g.P.DeskName.config (subst IsInRange c.requires.named c.ranges-2.ensures) in
    omega (arith, small.slices, c.requires.sized, c.put_slices-end.auto.sizes)

pub put_picture_front-requires-clause-sized : goal.put_picture_front-requires-clause-sized
put_picture_front-requires-clause-sized g c =
    let config = g.P.DeskName.config in
    let r = subst IsInRange c.requires.named c.ranges-2.ensures in
    let put = c.put_slices-end.ensures.put in
    let count : ℕ = length c.args.sizes.now in
    let start : ℕ = c.args.at + 8 + 2 * count in
    let many = c.put_slices-end.auto.sizes in
    let room = slices_within config c.args.at count r c.requires.sized in
    let small = picture_small config r in
    let ends = end_of c.args.out.now c.put_slices-end.new.out start c.put_slices-end.result (joined put.slices) (omega (arith, c.requires.room, room))
    (omega (arith, c.put_slices-end.ensures.most, c.requires.room, room, c.put_slices-end.auto.out)) put.put in
    omega (
      arith,
      small.slices,
      small.macroblocks_most,
      room,
      ends,
      many,
      c.put_slices-end.ensures.most,
      c.requires.sized,
      ap sum (all_listed count c.put_slices-end.new.sizes put.slices many put.listed),
      length-joined put.slices,
    )

pub returns-clause-put : goal.returns-clause-put
returns-clause-put g c =
    let config = g.P.DeskName.config in
    let told = g.N.Feed.bytes in
    let r = subst IsInRange c.requires.named c.ranges-2.ensures in
    let put = c.put_slices-end.ensures.put in
    let count : ℕ = length c.args.sizes.now in
    let start : ℕ = c.args.at + 8 + 2 * count in
    let many = c.put_slices-end.auto.sizes in
    let new : List ℕ = c.put_slices-end.new.out in
    let front : List ℕ = picture_front config.log2 (lengths put.slices) in
    let listed = all_listed count c.put_slices-end.new.sizes put.slices many put.listed in
    let room = slices_within config c.args.at count r c.requires.sized in
    let same = ap₂ (λ (f : Fields) (xs : List ℕ). with_bytes new c.args.at (picture_front f.log2 xs)) c.requires.named listed in
    let begins : start ≡ c.args.at + length front = omega (arith, length-picture_front config.log2 (lengths put.slices), ap (length {A = ℕ}) listed, many) in
    record {
      slices = put.slices;
      coded = subst (λ (n : ℕ). AreCodedFrom told config c.args.frame (c.args.number * slices_in_picture config) n put.slices) c.requires.sized put.coded;
      put = ap (take c.put_slices-end.result) (c.put_picture_front.ensures.written ∙ same)
          ∙ put_before c.args.out.now new c.args.at start c.put_slices-end.result front (joined put.slices) begins (omega (arith, c.requires.room, room))
          (omega (arith, c.put_slices-end.ensures.most, c.requires.room, room, c.put_slices-end.auto.out)) put.put;
    }

pub returns-clause-most : goal.returns-clause-most
returns-clause-most g c =
    let r = subst IsInRange c.requires.named c.ranges-2.ensures in
    omega (arith, c.put_slices-end.ensures.most, slices_within g.P.DeskName.config c.args.at (length c.args.sizes.now) r c.requires.sized)
