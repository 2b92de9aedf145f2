use Rattle.std.proofs.Common.{◌≡◌, ◌<◌, ◌≤◌, ◌+◌, ◌∷◌, [], ◌++◌, length, take, drop, ℕ, List, refl, sym, ap, ap₂, subst, ◌∙◌, arith}
use Rattle.std.proofs.lemmas.List.{append-nil, take_more_set, length-take-le, length-drop}
use Rattle.rec_bytes.specs.Configuration.{Fields}
use Rattle.rec_bytes.specs.Views.{view}
use Rattle.frame_syntax.specs.Written.{joined}
use Rattle.frame_codec.specs.Sources.{slices_of, slice_room, IsNth}
use Rattle.frame_codec.specs.inner.Writing.{slices_room}
use Rattle.frame_codec.proofs.RoomLemmas.{picture_small, room_next, room_within, slice_room_small}
use Rattle.frame_codec.proofs.BytesLemmas.{put_behind}
use Rattle.frame_codec.proofs.SlicesLemmas.{none_coded, coded_more, joined_more, lengths_more}
use Rattle.frame_codec.proofs.writing.put_slices.Goals as goal

-- the next slice has room behind those before it
next_room : (fields : Fields) (start at n count room : ℕ) → count ≡ slices_of fields → n < count → at ≤ start + slices_room fields n
    → start + slices_room fields count ≤ room → at + slice_room fields n ≤ room
next_room fields start at n count room same below before all =
    omega (arith, ap (λ (k : ℕ). slices_room fields k) same, before, all, room_within fields n (omega (arith, same, below)))

pub slices-init : goal.slices-init
slices-init g c = record {
  kept = c.requires.config;
  held = c.requires.held;
  room = omega arith;
  put = record {
    slices = [];
    coded = none_coded (view c.args.config.now) c.args.picture.now c.args.number;
    listed = refl;
    put = sym (append-nil (take c.args.start c.args.out.now));
  };
}

pub overflow_cast-n : goal.overflow_cast-n
overflow_cast-n g c =
    let small = picture_small (view c.args.config.now) c.ranges-2.ensures in
    omega (arith, small.slices, c.requires.sized, c.slices-test.true)

pub put_slice-len-requires-clause-room : goal.put_slice-len-requires-clause-room
put_slice-len-requires-clause-room g c =
    let same = ap (λ (f : Fields). slice_room f c.slices.n) c.slices.invariant.kept in
    let room = next_room (view c.args.config.now) c.args.start c.slices.at c.slices.n (length c.args.sizes.now) (length c.args.out.now)
    c.requires.sized c.slices-test.true c.slices.invariant.room c.requires.room in
    omega (arith, same, room, c.slices.auto.out)

pub overflow_cast-sizes : goal.overflow_cast-sizes
overflow_cast-sizes g c =
    let fields = view c.args.config.now in
    let same = ap (λ (f : Fields). slice_room f c.slices.n) c.slices.invariant.kept in
    let below : c.slices.n < slices_of fields = omega (arith, c.slices-test.true, c.requires.sized) in
    omega (arith, same, c.put_slice-len.ensures.most, slice_room_small fields c.slices.n c.ranges-2.ensures.log2 below)

pub overflow_add-at : goal.overflow_add-at
overflow_add-at g c =
    let same = ap (λ (f : Fields). slice_room f c.slices.n) c.slices.invariant.kept in
    let room = next_room (view c.args.config.now) c.args.start c.slices.at c.slices.n (length c.args.sizes.now) (length c.args.out.now)
    c.requires.sized c.slices-test.true c.slices.invariant.room c.requires.room in
    omega (arith, same, c.put_slice-len.ensures.most, room, c.slices.auto.out)

pub slices-preserved : goal.slices-preserved
slices-preserved g c =
    let fields = view c.args.config.now in
    let picture = c.args.picture.now in
    let number : ℕ = c.args.number in
    let n : ℕ = c.slices.n in
    let at : ℕ = c.slices.at in
    let start : ℕ = c.args.start in
    let len : ℕ = c.put_slice-len.result in
    let new : List ℕ = c.put_slice-len.new.out in
    let put = c.slices.invariant.put in
    let same = ap (λ (f : Fields). slice_room f n) c.slices.invariant.kept in
    let room = next_room fields start at n (length c.args.sizes.now) (length c.args.out.now)
    c.requires.sized c.slices-test.true c.slices.invariant.room c.requires.room in
    let slice : List ℕ = take len (drop at new) in
    let long : length slice ≡ len = length-take-le len (drop at new)
    (omega (arith, length-drop at new, c.put_slice-len.auto.out, c.slices.auto.out, same, c.put_slice-len.ensures.most, room)) in
    let coded = subst (λ (f : Fields). IsNth f picture number n slice)
    c.slices.invariant.kept c.put_slice-len.ensures.coded in
    record {
      kept = c.put_slice-len.ensures.kept ∙ c.slices.invariant.kept;
      held = c.put_slice-len.ensures.held;
      room = omega (arith, same, c.put_slice-len.ensures.most, c.slices.invariant.room, room_next fields n (omega (arith, c.slices-test.true, c.requires.sized)));
      put = record {
        slices = put.slices ++ slice ∷ [];
        coded = coded_more fields picture number n put.slices slice put.coded coded;
        listed = take_more_set c.slices.sizes n len (omega (arith, c.slices-test.true, c.slices.auto.sizes))
            ∙ (ap₂ (λ (xs : List ℕ) (k : ℕ). xs ++ k ∷ []) put.listed (sym long) ∙ sym (lengths_more put.slices slice));
        put = put_behind c.args.out.now c.slices.out new (joined put.slices) slice at start len put.put c.put_slice-len.ensures.before refl
            ∙ ap (λ (xs : List ℕ). take start c.args.out.now ++ xs) (sym (joined_more put.slices slice));
      };
    }
