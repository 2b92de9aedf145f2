-- Laws of the bytes of a list, and of the numbers that stand in them: proved here, for proofs to cite.
use Rattle.std.proofs.Common.{◌≡◌, ℕ, zero, suc, ◌+◌, ◌<◌, ◌≤◌, List, [], ◌∷◌, length, take, drop, get_or, sym, arith}
use Rattle.std.proofs.lemmas.List.{get_or-take, get_or-drop, length-drop, length-take-le}
use Rattle.std.proofs.lemmas.Nat.{be_bytes_2, be_bytes_4}
use Rattle.std.specs.Int.{from_be_bytes, w16, w32}
use Rattle.byteorder.specs.Endian.{big_number, big_bytes}

-- every element is a byte
abbrev pub AreBytes : List ℕ → Type 0
AreBytes xs = (i : ℕ) → get_or xs i 0 < 256

-- the first of some bytes are bytes
pub taken_bytes : (n : ℕ) (xs : List ℕ) → AreBytes xs → AreBytes (take n xs)
taken_bytes zero xs h i = omega arith
taken_bytes (suc n) [] h i = h i
taken_bytes (suc n) (x ∷ xs) h zero = h 0
taken_bytes (suc n) (x ∷ xs) h (suc i) = taken_bytes n xs (λ k. h (suc k)) i

-- and so are those behind them
pub left_bytes : (n : ℕ) (xs : List ℕ) → AreBytes xs → AreBytes (drop n xs)
left_bytes n xs h i = rw (get_or-drop n xs i 0) (h (n + i))

-- the number of two bytes, in std's word
number_2 : (xs : List ℕ) → big_number 2 xs ≡ from_be_bytes w16 (take 2 xs)
number_2 xs = rw (get_or-take 2 xs 0 0 (omega arith), get_or-take 2 xs 1 0 (omega arith)) (omega arith)

-- and that of four
number_4 : (xs : List ℕ) → big_number 4 xs ≡ from_be_bytes w32 (take 4 xs)
number_4 xs =
    rw (
      get_or-take 4 xs 0 0 (omega arith),
      get_or-take 4 xs 1 0 (omega arith),
      get_or-take 4 xs 2 0 (omega arith),
      get_or-take 4 xs 3 0 (omega arith),
    ) (omega arith)

-- the bytes of the number that stands in two bytes are these two
pub bytes_of_2 : (at : ℕ) (xs : List ℕ) → AreBytes xs → at + 2 ≤ length xs → take 2 (drop at xs) ≡ big_bytes 2 (big_number 2 (drop at xs))
bytes_of_2 at xs h room =
    let rest : List ℕ = drop at xs in
    let long : length (take 2 rest) ≡ 2 = length-take-le 2 rest (omega (arith, length-drop at xs)) in
    sym (be_bytes_2 (take 2 rest) (big_number 2 rest) long (taken_bytes 2 rest (left_bytes at xs h)) (number_2 rest))

-- and those of the number that stands in four bytes are these four
pub bytes_of_4 : (at : ℕ) (xs : List ℕ) → AreBytes xs → at + 4 ≤ length xs → take 4 (drop at xs) ≡ big_bytes 4 (big_number 4 (drop at xs))
bytes_of_4 at xs h room =
    let rest : List ℕ = drop at xs in
    let long : length (take 4 rest) ≡ 4 = length-take-le 4 rest (omega (arith, length-drop at xs)) in
    sym (be_bytes_4 (take 4 rest) (big_number 4 rest) long (taken_bytes 4 rest (left_bytes at xs h)) (number_4 rest))
