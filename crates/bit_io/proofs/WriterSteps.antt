use Rattle.std.proofs.Common.{◌≡◌, ℕ, ◌+◌, ◌-◌, ◌*◌, ◌/◌, ◌%◌, ◌^◌, ◌<◌, ◌≤◌, List, ◌++◌, length, take, drop, sym, ap, ◌∙◌, arith}
use Rattle.std.specs.Prelude.{bit_or, bit_and}
use Rattle.std.proofs.lemmas.List.{length-append, append_assoc, take_all, length-take-le, drop-drop}
use Rattle.std.proofs.lemmas.Nat.{and_mask}
use Rattle.bit_io.specs.Bits.{bits, bits_of, zeros}
use Rattle.bit_io.specs.laws.BitLaws.{length-bits, length-bits_of, bits-add, bits-mod, bits-put, bits-shl, take_padded}

-- bits that are stored, and bits that wait
pub length-put : (at count acc : ℕ) (out : List ℕ) → at ≤ length out → length (bits_of (take at out) ++ bits count acc) ≡ 8 * at + count
length-put at count acc out h =
    length-append (bits_of (take at out)) (bits count acc)
    ∙ omega (arith, length-bits_of (take at out), length-take-le at out h, length-bits count acc)

-- bytes behind a place stay where more bytes behind an earlier one stay
pub same_behind : (a b : ℕ) (xs ys : List ℕ) → a ≤ b → drop a xs ≡ drop a ys → drop b xs ≡ drop b ys
same_behind a b xs ys h e =
    let cut : a + (b - a) ≡ b = omega arith in
    ap (λ (k : ℕ). drop k xs) (sym cut) ∙ (sym (drop-drop (b - a) a xs) ∙ (ap (drop (b - a)) e ∙ (drop-drop (b - a) a ys ∙ ap (λ (k : ℕ). drop k ys) cut)))

-- bits that wait are followed by those that are put now
pub waiting : (at count n acc value : ℕ) (out : List ℕ) → count + n ≤ 64 → value < 2 ^ n → bits_of (take at out) ++ bits (count + n) (bit_or (acc * 2 ^ n % 2 ^ 64) value) ≡ (bits_of (take at out) ++ bits count acc) ++ bits n value
waiting at count n acc value out h small =
    ap (λ (bs : List ℕ). bits_of (take at out) ++ bs) (bits-put count n acc value h small) ∙ sym (append_assoc (bits_of (take at out)) (bits count acc) (bits n value))

-- the low 32 bits are the number's under the mask
pub masked : (x : ℕ) → bits 32 (bit_and x 4294967295) ≡ bits 32 x
masked x = ap (bits 32) (and_mask x 32) ∙ bits-mod 32 32 x (omega arith)

-- the highest 32 of the bits that wait are stored
pub stored : (at count n acc value : ℕ) (out new : List ℕ) → count + n ≤ 64 → 32 ≤ count + n → value < 2 ^ n
    → bits_of (take (at + 4) new) ≡ bits_of (take at out) ++ take (8 * 4) (bits 32 (bit_and (bit_or (acc * 2 ^ n % 2 ^ 64) value / 2 ^ (count + n - 32)) 4294967295))
    → bits_of (take (at + 4) new) ++ bits (count + n - 32) (bit_or (acc * 2 ^ n % 2 ^ 64) value) ≡ (bits_of (take at out) ++ bits count acc) ++ bits n value
stored at count n acc value out new h full small e =
    let now : ℕ = bit_or (acc * 2 ^ n % 2 ^ 64) value in
    let left : ℕ = count + n - 32 in
    let word : take (8 * 4) (bits 32 (bit_and (now / 2 ^ left) 4294967295)) ≡ bits 32 (now / 2 ^ left) =
    take_all 32 (bits 32 (bit_and (now / 2 ^ left) 4294967295)) (omega (arith, length-bits 32 (bit_and (now / 2 ^ left) 4294967295))) ∙ masked (now / 2 ^ left) in
    ap (λ (bs : List ℕ). bs ++ bits left now) (e ∙ ap (λ (bs : List ℕ). bits_of (take at out) ++ bs) word)
    ∙ (append_assoc (bits_of (take at out)) (bits 32 (now / 2 ^ left)) (bits left now)
    ∙ (ap (λ (bs : List ℕ). bits_of (take at out) ++ bs) (sym (bits-add 32 left now) ∙ ap (λ (k : ℕ). bits k now) (omega arith))
    ∙ waiting at count n acc value out h small))

-- the bytes that the waiting bits begin
pub padded : (at count acc : ℕ) (out new : List ℕ) → count < 32 → at ≤ length out
    → bits_of (take (at + (count + 7) / 8) new) ≡ bits_of (take at out) ++ take (8 * ((count + 7) / 8)) (bits 32 (bit_and (acc * 2 ^ (32 - count) % 2 ^ 64) 4294967295))
    → bits_of (take (at + (count + 7) / 8) new) ≡ (bits_of (take at out) ++ bits count acc) ++ zeros (8 * (at + (count + 7) / 8) - length (bits_of (take at out) ++ bits count acc))
padded at count acc out new small within e =
    let last : ℕ = 8 * ((count + 7) / 8) in
    let x : ℕ = acc * 2 ^ (32 - count) % 2 ^ 64 in
    let whole : 32 ≡ count + (32 - count) = omega arith in
    let word : bits 32 (bit_and x 4294967295) ≡ bits count acc ++ zeros (32 - count) =
    masked x ∙ (ap (λ (k : ℕ). bits k x) whole ∙ bits-shl count (32 - count) acc (omega arith)) in
    let first : take last (bits 32 (bit_and x 4294967295)) ≡ bits count acc ++ zeros (last - length (bits count acc)) =
    ap (take last) word ∙ take_padded (bits count acc) last (32 - count) (omega (arith, length-bits count acc)) (omega (arith, length-bits count acc)) in
    let rest : last - length (bits count acc) ≡ 8 * (at + (count + 7) / 8) - length (bits_of (take at out) ++ bits count acc) =
    omega (arith, length-bits count acc, length-put at count acc out within) in
    e ∙ (ap (λ (bs : List ℕ). bits_of (take at out) ++ bs) (first ∙ ap (λ (k : ℕ). bits count acc ++ zeros k) rest)
    ∙ sym (append_assoc (bits_of (take at out)) (bits count acc) (zeros (8 * (at + (count + 7) / 8) - length (bits_of (take at out) ++ bits count acc)))))
