use Rattle.std.proofs.Common.{◌≡◌, ℕ, List, ◌++◌, length, length-append, refl, ap, ◌∙◌, arith}
use Rattle.byteorder.specs.Endian.{big_bytes}
use Rattle.rec_bytes.specs.Places.{with_bytes}
use Rattle.rec_bytes.specs.laws.Places.{with_bytes-more}
use Rattle.frame_syntax.specs.Written.{identity_bytes, format_bytes, matrix_bytes}
use Rattle.frame_syntax.specs.declared.frame_head.TheConstants.{FRAME_NAME}
use Rattle.frame_syntax.specs.laws.LengthLaws.{length-frame_front}
use Rattle.frame_syntax.proofs.FrontLemmas.{frame_front-pieces}
use Rattle.frame_syntax.proofs.front.put_frame_front.Goals as goal

pub returns-clause-behind : goal.returns-clause-behind
returns-clause-behind c =
    let long = length-frame_front c.args.head.now c.args.frame_len c.put_identity-format_at.ensures.sized in
    omega (arith, long, c.put_matrices.ensures.behind, c.put_format-matrices_at.ensures.behind, c.put_identity-format_at.ensures.behind)

pub returns-clause-written : goal.returns-clause-written
returns-clause-written c =
    let head = c.args.head.now in
    let old : List ℕ = c.args.out.now in
    let first : List ℕ = big_bytes 4 c.args.frame_len in
    let sized = c.put_identity-format_at.ensures.sized in
    let long = length-frame_front head c.args.frame_len sized in
    let room = c.requires.room in
    let at_16 = c.put_identity-format_at.ensures.behind in
    let at_28 = c.put_format-matrices_at.ensures.behind in
    let to_8 = with_bytes-more old 0 4 first FRAME_NAME _ _ c.put_u32.ensures refl (omega (arith, long, room)) c.put_bytes.ensures in
    let to_16 = with_bytes-more old 0 8 (first ++ FRAME_NAME) (identity_bytes head) _ _ to_8 refl (omega (arith, long, room)) c.put_identity-format_at.ensures.written in
    let front : List ℕ = (first ++ FRAME_NAME) ++ identity_bytes head in
    let front_long : length front ≡ 16 = omega (arith, sized, length-append front head.encoder) in
    let to_28 = with_bytes-more old 0 c.put_identity-format_at.result front (format_bytes head) _ _ to_16 (omega (arith, at_16, front_long)) (omega (arith, long, room, at_16))
    c.put_format-matrices_at.ensures.written in
    let both : length (front ++ format_bytes head) ≡ 28 = omega (arith, length-append front (format_bytes head), front_long) in
    let all = with_bytes-more old 0 c.put_format-matrices_at.result (front ++ format_bytes head) (matrix_bytes head) _ _ to_28 (omega (arith, at_28, at_16, both))
    (omega (arith, long, room, at_28, at_16)) c.put_matrices.ensures.written in
    all ∙ ap (with_bytes old 0) (frame_front-pieces head c.args.frame_len)
