use Rattle.std.proofs.Common.{◌≡◌, ◌+◌, ℕ, List, length, take, drop, ap, subst, ◌∙◌, arith}
use Rattle.std.proofs.lemmas.List.{with_items_is}
use Rattle.rec_bytes.specs.Configuration.{Fields}
use Rattle.rec_bytes.specs.Views.{view}
use Rattle.frame_codec.specs.Sources.{IsNth, slice_room}
use Rattle.slice_workers.proofs.PieceLemmas.{pieces_more}
use Rattle.slice_workers.proofs.hand.code_slice.Goals as goal

pub put_slice-len-requires-clause-room : goal.put_slice-len-requires-clause-room
put_slice-len-requires-clause-room c =
    let short = c.slices_are_short.ensures (view c.args.config.now) c.args.n c.ranges-2.ensures c.requires.within in
    let same = ap (λ (f : Fields). slice_room f c.args.n) c.requires.has.config in
    omega (arith, short, same, c.requires.bytes, ap length c.as_mut_slice.ensures.value)

pub overflow_add-hand : goal.overflow_add-hand
overflow_add-hand c =
    let short = c.slices_are_short.ensures (view c.args.config.now) c.args.n c.ranges-2.ensures c.requires.within in
    let same = ap (λ (f : Fields). slice_room f c.args.n) c.requires.has.config in
    omega (arith, short, same, c.put_slice-len.ensures.most, c.requires.bytes, c.args.hand.now.bytes.small)

pub returns : goal.returns
returns c =
    let fields = view c.args.config.now in
    let hand = c.args.hand.now in
    let short = c.slices_are_short.ensures fields c.args.n c.ranges-2.ensures c.requires.within in
    let same = ap (λ (f : Fields). slice_room f c.args.n) c.requires.has.config in
    let used : ℕ = hand.used in
    let len : ℕ = c.put_slice-len.result in
    let new : List ℕ = c.put_slice-len.new.out in
    let before = c.put_slice-len.ensures.before ∙ ap (take used) c.as_mut_slice.ensures.value in
    let long : length new ≡ hand.bytes.len = omega (arith, c.put_slice-len.auto.out, ap length c.as_mut_slice.ensures.value, hand.bytes.ok.0) in
    let items = with_items_is hand.bytes new long in
    record {
      config = c.put_slice-len.ensures.kept ∙ c.requires.has.config;
      used = omega (arith, short, same, c.put_slice-len.ensures.most, c.requires.bytes, c.put_slice-len.auto.out, ap length c.as_mut_slice.ensures.value, ap (length {A = ℕ}) items);
      pieces = rw (items, c.push_reserved.ensures.items)
          (pieces_more fields c.args.picture.now hand.bytes.items new used (used + len) hand.pieces.items _ (omega arith) before c.requires.has.pieces
          (record {
            within = omega arith;
            most = omega (arith, same, c.put_slice-len.ensures.most);
            coded = subst (λ (f : Fields). IsNth f c.args.picture.now c.args.number c.args.n (take len (drop used new))) c.requires.has.config c.put_slice-len.ensures.coded;
          }));
    }
