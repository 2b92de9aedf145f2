use Rattle.std.proofs.Common.{ℕ, List, [], ◌∷◌, ◌+◌, ◌*◌, ◌++◌, length, sum, refl, ap, ◌∙◌, arith}
use Rattle.byteorder.specs.Endian.{big_bytes}
use Rattle.rec_bytes.specs.Places.{with_bytes}
use Rattle.rec_bytes.specs.laws.Places.{with_bytes-more}
use Rattle.frame_syntax.specs.Written.{picture_front, table_of}
use Rattle.frame_syntax.proofs.front.put_picture_front.Goals as goal

pub returns-clause-behind : goal.returns-clause-behind
returns-clause-behind c = c.put_table.ensures.behind

pub returns-clause-written : goal.returns-clause-written
unfolding picture_front
returns-clause-written c =
    let sizes = c.args.sizes.now in
    let old : List ℕ = c.args.out.now in
    let at : ℕ = c.args.at in
    let size : ℕ = 8 + 2 * length sizes + sum sizes in
    let total = ap (λ (n : ℕ). 8 + 2 * length sizes + n) c.sum_of.ensures in
    let number = c.put_u32.ensures ∙ ap (λ (n : ℕ). with_bytes c.put_bytes.new.out (at + 1) (big_bytes 4 n)) total in
    let room = c.requires.room in
    let head : List ℕ = 64 ∷ [] in
    let to_5 = with_bytes-more old at (at + 1) head (big_bytes 4 size) _ _ c.put_bytes.ensures refl (omega (arith, room)) number in
    let to_7 = with_bytes-more old at (at + 5) (head ++ big_bytes 4 size) (big_bytes 2 (length sizes)) _ _ to_5 refl (omega (arith, room)) c.put_u16.ensures in
    let to_8 = with_bytes-more old at (at + 7) ((head ++ big_bytes 4 size) ++ big_bytes 2 (length sizes)) ((16 * c.args.log2) ∷ []) _ _ to_7 refl (omega (arith, room)) c.put_bytes-2.ensures in
    with_bytes-more old at (at + 8) (((head ++ big_bytes 4 size) ++ big_bytes 2 (length sizes)) ++ ((16 * c.args.log2) ∷ [])) (table_of sizes) _ _ to_8 refl (omega (arith, room)) c.put_table.ensures.written
