-- The parts of a segment, written one behind the other.
use Rattle.std.proofs.Common.{◌≡◌, ℕ, ◌+◌, ◌≤◌, List, ◌++◌, length, ap, ◌∙◌, arith, append_assoc, length-append}
use Rattle.rec_bytes.specs.Places.{with_bytes}
use Rattle.rec_bytes.specs.laws.Places.{with_bytes-more}

-- the first of five lists apart from the others
joined : (a b c d e : List ℕ) → a ++ b ++ c ++ d ++ e ≡ a ++ (b ++ c ++ d ++ e)
joined a b c d e = simp append_assoc

-- five parts, each behind the one before
pub five : (old a b c d e v w x y z : List ℕ) (p q r s : ℕ) → p ≡ length a → q ≡ p + length b → r ≡ q + length c → s ≡ r + length d → s ≤ length old
    → v ≡ with_bytes old 0 a → w ≡ with_bytes v p b → x ≡ with_bytes w q c → y ≡ with_bytes x r d → z ≡ with_bytes y s e → z ≡ with_bytes old 0 (a ++ (b ++ c ++ d ++ e))
five old a b c d e v w x y z p q r s at_p at_q at_r at_s room first second third fourth fifth =
    let two = with_bytes-more old 0 p a b v w first (omega (arith, at_p)) (omega (arith, at_q, at_r, at_s, room)) second in
    let long_2 = length-append a b in
    let three = with_bytes-more old 0 q (a ++ b) c w x two (omega (arith, at_p, at_q, long_2)) (omega (arith, at_r, at_s, room)) third in
    let long_3 = length-append (a ++ b) c in
    let four = with_bytes-more old 0 r (a ++ b ++ c) d x y three (omega (arith, at_p, at_q, at_r, long_2, long_3)) (omega (arith, at_s, room)) fourth in
    let long_4 = length-append (a ++ b ++ c) d in
    with_bytes-more old 0 s (a ++ b ++ c ++ d) e y z four (omega (arith, at_p, at_q, at_r, at_s, long_2, long_3, long_4)) room fifth
    ∙ ap (with_bytes old 0) (joined a b c d e)
