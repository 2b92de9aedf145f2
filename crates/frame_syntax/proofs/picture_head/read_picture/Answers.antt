use Rattle.std.proofs.Common.{◌≡◌, ◌+◌, length, false, nat_le, refl, ap, arith}
use Rattle.std.proofs.lemmas.Bool.{lt-leb}
use Rattle.frame_syntax.specs.Pictures.{picture_of}
use Rattle.frame_syntax.specs.declared.picture_head.PictureHead.{PictureHead}
use Rattle.frame_syntax.proofs.picture_head.read_picture.Goals as goal

pub returns-then-bytes-at-lt-LEAST_PICTURE_HEAD-clause-short : goal.returns-then-bytes-at-lt-LEAST_PICTURE_HEAD-clause-short
unfolding picture_of
returns-then-bytes-at-lt-LEAST_PICTURE_HEAD-clause-short c =
    let less : nat_le (c.args.at + 8) (length c.args.bytes.now) ≡ false = lt-leb (c.args.at + 8) (length c.args.bytes.now) (omega arith) in
    rw less refl

pub is_sized-requires : goal.is_sized-requires
unfolding picture_of
is_sized-requires c =
    let same : c.picture_at-picture.result.at ≡ c.args.at = ap (λ (p : PictureHead). p.at) c.picture_at-picture.ensures in
    omega (arith, same)
