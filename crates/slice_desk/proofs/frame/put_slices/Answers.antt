use Rattle.std.proofs.Common.{◌≡◌, ◌<◌, ◌+◌, ◌*◌, ◌∷◌, [], ◌++◌, length, take, drop, ℕ, List, refl, sym, ap, ap₂, subst, ◌∙◌, arith}
use Rattle.std.proofs.lemmas.List.{append-nil, take_more_set, length-take-le, length-drop}
use Rattle.frame_syntax.specs.Written.{joined}
use Rattle.slice_desk.specs.Slices.{slices_in_picture, slice_room, IsCodedFor}
use Rattle.slice_desk.proofs.RoomLemmas.{picture_small, room_next, slice_room_small}
use Rattle.slice_desk.proofs.BytesLemmas.{put_behind}
use Rattle.slice_desk.proofs.NumberLemmas.{number_is, number_small, next_room}
use Rattle.slice_desk.proofs.SlicesLemmas.{none_coded, coded_more, joined_more, lengths_more}
use Rattle.slice_desk.proofs.frame.put_slices.Goals as goal

pub put_slice-len-requires-clause-long : goal.put_slice-len-requires-clause-long
put_slice-len-requires-clause-long g c =
    let config = g.P.DeskName.config in
    let index : ℕ = c.from.result * length c.args.sizes.now + c.slices.n in
    let number = number_is config c.args.number (length c.args.sizes.now) c.slices.n index c.requires.number c.requires.sized c.slices-test.true
    (ap (λ (k : ℕ). k * length c.args.sizes.now + c.slices.n) c.from.ensures) in
    omega (arith, number.within, c.requires.there.long)

pub put_slice-len-requires-clause-there : goal.put_slice-len-requires-clause-there
put_slice-len-requires-clause-there g c =
    let config = g.P.DeskName.config in
    let index : ℕ = c.from.result * length c.args.sizes.now + c.slices.n in
    let number = number_is config c.args.number (length c.args.sizes.now) c.slices.n index c.requires.number c.requires.sized c.slices-test.true
    (ap (λ (k : ℕ). k * length c.args.sizes.now + c.slices.n) c.from.ensures) in
    c.requires.there.there index (omega arith) number.within

pub put_slice-len-requires-clause-room : goal.put_slice-len-requires-clause-room
put_slice-len-requires-clause-room g c =
    let config = g.P.DeskName.config in
    let index : ℕ = c.from.result * length c.args.sizes.now + c.slices.n in
    let number = number_is config c.args.number (length c.args.sizes.now) c.slices.n index c.requires.number c.requires.sized c.slices-test.true
    (ap (λ (k : ℕ). k * length c.args.sizes.now + c.slices.n) c.from.ensures) in
    let room = next_room config c.args.start c.slices.at c.slices.n (length c.args.sizes.now) (length c.args.out.now)
    c.requires.sized c.slices-test.true c.slices.invariant.room c.requires.room in
    omega (arith, ap (slice_room config) number.place, room, c.slices.auto.out)

pub overflow_cast-sizes : goal.overflow_cast-sizes
overflow_cast-sizes g c =
    let config = g.P.DeskName.config in
    let index : ℕ = c.from.result * length c.args.sizes.now + c.slices.n in
    let number = number_is config c.args.number (length c.args.sizes.now) c.slices.n index c.requires.number c.requires.sized c.slices-test.true
    (ap (λ (k : ℕ). k * length c.args.sizes.now + c.slices.n) c.from.ensures) in
    let below : c.slices.n < slices_in_picture config = omega (arith, c.slices-test.true, c.requires.sized) in
    omega (arith, ap (slice_room config) number.place, c.put_slice-len.ensures.most, slice_room_small config c.slices.n c.requires.ranges.log2 below)

pub overflow_add-at : goal.overflow_add-at
overflow_add-at g c =
    let config = g.P.DeskName.config in
    let index : ℕ = c.from.result * length c.args.sizes.now + c.slices.n in
    let number = number_is config c.args.number (length c.args.sizes.now) c.slices.n index c.requires.number c.requires.sized c.slices-test.true
    (ap (λ (k : ℕ). k * length c.args.sizes.now + c.slices.n) c.from.ensures) in
    let room = next_room config c.args.start c.slices.at c.slices.n (length c.args.sizes.now) (length c.args.out.now)
    c.requires.sized c.slices-test.true c.slices.invariant.room c.requires.room in
    omega (arith, ap (slice_room config) number.place, c.put_slice-len.ensures.most, room, c.slices.auto.out)

pub slices-preserved : goal.slices-preserved
slices-preserved g c =
    let config = g.P.DeskName.config in
    let told = g.N.Feed.bytes in
    let frame : ℕ = c.args.frame in
    let n : ℕ = c.slices.n in
    let at : ℕ = c.slices.at in
    let start : ℕ = c.args.start in
    let len : ℕ = c.put_slice-len.result in
    let new : List ℕ = c.put_slice-len.new.out in
    let put = c.slices.invariant.put in
    let index : ℕ = c.from.result * length c.args.sizes.now + n in
    let number = number_is config c.args.number (length c.args.sizes.now) n index c.requires.number c.requires.sized c.slices-test.true
    (ap (λ (k : ℕ). k * length c.args.sizes.now + n) c.from.ensures) in
    let same = ap (slice_room config) number.place in
    let room = next_room config start at n (length c.args.sizes.now) (length c.args.out.now) c.requires.sized c.slices-test.true c.slices.invariant.room c.requires.room in
    let slice : List ℕ = take len (drop at new) in
    let long : length slice ≡ len = length-take-le len (drop at new)
    (omega (arith, length-drop at new, c.put_slice-len.auto.out, c.slices.auto.out, same, c.put_slice-len.ensures.most, room)) in
    let coded : IsCodedFor told config frame (c.args.number * slices_in_picture config + n) slice =
    subst (λ (k : ℕ). IsCodedFor told config frame k slice) number.is c.put_slice-len.ensures.coded in
    record {
      room = omega (arith, same, c.put_slice-len.ensures.most, c.slices.invariant.room, room_next config n (omega (arith, c.slices-test.true, c.requires.sized)));
      put = record {
        slices = put.slices ++ slice ∷ [];
        coded = coded_more told config frame (c.args.number * slices_in_picture config) n put.slices slice put.coded coded;
        listed = take_more_set c.slices.sizes n len (omega (arith, c.slices-test.true, c.slices.auto.sizes))
            ∙ (ap₂ (λ (xs : List ℕ) (k : ℕ). xs ++ k ∷ []) put.listed (sym long) ∙ sym (lengths_more put.slices slice));
        put = put_behind c.args.out.now c.slices.out new (joined put.slices) slice at start len put.put c.put_slice-len.ensures.before refl
            ∙ ap (λ (xs : List ℕ). take start c.args.out.now ++ xs) (sym (joined_more put.slices slice));
      };
    }

pub overflow_cast-first : goal.overflow_cast-first
overflow_cast-first g c =
    let small = picture_small g.P.DeskName.config c.requires.ranges in omega (arith, small.slices, c.requires.sized)

pub overflow_mul-first : goal.overflow_mul-first
overflow_mul-first g c =
    let count : ℕ = length c.args.sizes.now in
    let most = number_small g.P.DeskName.config c.args.number count c.requires.ranges c.requires.number c.requires.sized in
    let same = ap (λ (k : ℕ). k * count) c.from.ensures in
    omega (arith, same, most)

pub overflow_cast-index : goal.overflow_cast-index
overflow_cast-index g c =
    let small = picture_small g.P.DeskName.config c.requires.ranges in omega (arith, small.slices, c.requires.sized, c.slices-test.true)

pub overflow_add-index : goal.overflow_add-index
overflow_add-index g c =
    let count : ℕ = length c.args.sizes.now in
    let small = picture_small g.P.DeskName.config c.requires.ranges in
    let most = number_small g.P.DeskName.config c.args.number count c.requires.ranges c.requires.number c.requires.sized in
    let same = ap (λ (k : ℕ). k * count) c.from.ensures in
    omega (arith, same, most, small.slices, c.requires.sized, c.slices-test.true)

pub slices-init : goal.slices-init
slices-init g c = record {
  room = omega arith;
  put = record {
    slices = [];
    coded = none_coded g.N.Feed.bytes g.P.DeskName.config c.args.frame (c.args.number * slices_in_picture g.P.DeskName.config);
    listed = refl;
    put = sym (append-nil (take c.args.start c.args.out.now));
  };
}
