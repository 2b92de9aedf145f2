-- Writes at a place.
use Rattle.std.proofs.Common.{◌≡◌, Some, ◌^◌, ◌<◌, ℕ, ◌+◌, ◌-◌, ◌≤◌, List, [], ◌++◌, length, take, drop, refl, subst, arith, append_assoc}
use Rattle.std.proofs.lemmas.List.{take_rest, drop-drop, drop_all, length-drop, append-nil, length-append, length-take-le, drop_at}
use Rattle.std.proofs.Math.Seq.{take-append_seam}
use Rattle.std.proofs.lemmas.Bool.{le-ltb}
use Rattle.byteorder.specs.Endian.{big_bytes}
use Rattle.byteorder.specs.Numbers.{big_number-reads_back, length-bytes_high_first}
use Rattle.rec_bytes.specs.Places.{number_at, with_bytes}
use borrow.Rule.Slice.PartMut.{put_mid}

-- a write of n bytes at the front of the part of a slice from a place on
pub put_is : (at n : ℕ) (xs ys bytes : List ℕ) → length bytes ≡ n → at + n ≤ length xs
    → ys ≡ bytes ++ drop n (take (length xs - at) (drop at xs)) → put_mid at (length xs - at) xs ys ≡ with_bytes xs at bytes
put_is at n xs ys bytes l h e =
    let past : drop (length xs - at) (drop at xs) ≡ [] = drop_all (length xs - at) (drop at xs) (omega (arith, length-drop at xs)) in
    rw (e, take_rest xs at, past, append-nil, drop-drop, l, append_assoc) refl

-- after a write behind the first bytes, these and the new bytes come first
pub grown : (at n : ℕ) (xs bytes : List ℕ) → length bytes ≡ n → at ≤ length xs → take (at + n) (with_bytes xs at bytes) ≡ take at xs ++ bytes
grown at n xs bytes l h =
    let rest : List ℕ = drop (at + length bytes) xs in
    let front : length (take at xs) ≡ at = length-take-le at xs h in
    let both : length (take at xs ++ bytes) ≡ at + n = omega (arith, length-append (take at xs) bytes, front, l) in
    subst (λ (k : ℕ). take k ((take at xs ++ bytes) ++ rest) ≡ take at xs ++ bytes) both (take-append_seam (take at xs ++ bytes) rest)

-- a number that was written at a place is the number at that place
pub taken : (bytes : List ℕ) (n at value : ℕ) → at + n ≤ length bytes → value < 256 ^ n → number_at n (with_bytes bytes at (big_bytes n value)) at ≡ Some value
taken bytes n at value room small =
    let written : List ℕ = with_bytes bytes at (big_bytes n value) in
    let past : List ℕ = drop (at + length (big_bytes n value)) bytes in
    let l : length (big_bytes n value) ≡ n = length-bytes_high_first n value in
    let front : length (take at bytes) ≡ at = length-take-le at bytes (omega arith) in
    let rest : drop at written ≡ big_bytes n value ++ past = rw append_assoc (drop_at (take at bytes) _ at front) in
    let long : at + n ≤ length written =
    omega (arith, length-append (take at bytes ++ big_bytes n value) past, length-append (take at bytes) (big_bytes n value), l, front) in
    rw (le-ltb (length written) (at + n) long, rest, big_number-reads_back n value _ small) refl
