-- The bytes before the coded pictures of a frame.
use Rattle.std.proofs.Common.{◌≡◌, ℕ, List, ◌++◌, ap, ◌∙◌, append_assoc}
use Rattle.byteorder.specs.Endian.{big_bytes}
use Rattle.frame_syntax.specs.Written.{identity_bytes, format_bytes, matrix_bytes, frame_front}
use Rattle.frame_syntax.specs.declared.frame_head.FrameHead.{FrameHead}
use Rattle.frame_syntax.specs.declared.frame_head.TheConstants.{FRAME_NAME}

-- they are written in pieces
pub frame_front-pieces : (head : FrameHead) (n : ℕ)
    → ((((big_bytes 4 n ++ FRAME_NAME) ++ identity_bytes head) ++ format_bytes head) ++ matrix_bytes head) ≡ frame_front head n
frame_front-pieces head n =
    let front : List ℕ = big_bytes 4 n ++ FRAME_NAME in
    ap (λ (xs : List ℕ). xs ++ matrix_bytes head) (append_assoc front (identity_bytes head) (format_bytes head))
    ∙ append_assoc front (identity_bytes head ++ format_bytes head) (matrix_bytes head)
