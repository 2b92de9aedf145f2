use Rattle.std.proofs.Common.{◌+◌, ◌*◌, ℕ, List, [], ◌∷◌, refl, ap, ap₂, ◌∙◌, arith}
use Rattle.byteorder.specs.Endian.{big_bytes}
use Rattle.rec_bytes.specs.Places.{with_bytes}
use Rattle.rec_bytes.specs.laws.Places.{with_bytes-three}
use Rattle.frame_syntax.specs.Written.{packed_bytes}
use Rattle.frame_syntax.proofs.front.put_format.Goals as goal

pub returns-clause-written : goal.returns-clause-written
returns-clause-written c =
    let head = c.args.head.now in
    let flags = ap₂ (λ (a b : ℕ). 2 * a + b) c.flag_of.ensures.value c.flag_of-2.ensures.value in
    let packed = ap (λ (n : ℕ).
    (64 * head.chroma_format + 4 * head.interlace) ∷ (16 * head.aspect + head.rate) ∷ head.primaries ∷ head.transfer ∷ head.matrix ∷ head.alpha ∷ 0 ∷ n ∷ []) flags in
    with_bytes-three c.args.out.now c.args.at (c.args.at + 2) (c.args.at + 4) (big_bytes 2 head.width) (big_bytes 2 head.height) (packed_bytes head)
    c.put_u16.new.out c.put_u16-2.new.out c.put_bytes.new.out refl refl (omega (arith, c.requires.room)) (omega (arith, c.requires.room))
    c.put_u16.ensures c.put_u16-2.ensures (c.put_bytes.ensures ∙ ap (λ (xs : List ℕ). with_bytes c.put_u16-2.new.out (c.args.at + 4) xs) packed)
