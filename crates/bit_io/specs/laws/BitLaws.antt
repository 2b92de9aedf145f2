-- Laws of the bits of numbers and of bytes: proved here, for proofs to cite.
use Rattle.std.proofs.Common.{◌≡◌, ℕ, zero, suc, ◌+◌, ◌-◌, ◌*◌, ◌/◌, ◌%◌, ◌^◌, ◌<◌, ◌≤◌, List, [], ◌∷◌, ◌++◌, length, take, drop}
use Rattle.std.proofs.Common.{refl, sym, ap, ◌∙◌, arith, get_or}
use Rattle.std.specs.Int.{bit_at, to_be_bytes, w32}
use Rattle.std.proofs.lemmas.List.{length-append, append_assoc, append-nil, take-append-drop, take_at, length-take-le}
use Rattle.std.proofs.lemmas.List.{length-replicate, replicate-append-replicate, drop_at}
use Rattle.std.proofs.lemmas.Nat.{shr-shr, shr_split, shr_high, mod_low, or_shifted, mod-pow-add, shl-shr, pow_pos}
use Rattle.std.specs.Prelude.{bit_or}
use Rattle.std.proofs.lemmas.Nat.Bits.{bit_at_cat_low, bit_at-zero, same_from_bits_below}
use Rattle.std.proofs.Math.Nat.{suc-add, zero-add, add-zero, add_comm, mul-mod_left}
use Rattle.bit_io.specs.Bits.{bits, bits_of, zeros}

pub length-bits : (n v : ℕ) → length (bits n v) ≡ n
unfolding bits
length-bits zero v = refl
length-bits (suc n) v = ap suc (length-bits n v)

pub length-bits_of : (bytes : List ℕ) → length (bits_of bytes) ≡ 8 * length bytes
unfolding bits_of
length-bits_of [] = refl
length-bits_of (b ∷ bs) = omega (arith, length-append (bits 8 b) (bits_of bs), length-bits 8 b, length-bits_of bs)

pub bits_of-append : (xs ys : List ℕ) → bits_of (xs ++ ys) ≡ bits_of xs ++ bits_of ys
unfolding bits_of
bits_of-append [] ys = refl
bits_of-append (x ∷ xs) ys = ap (λ (zs : List ℕ). bits 8 x ++ zs) (bits_of-append xs ys) ∙ sym (append_assoc (bits 8 x) (bits_of xs) (bits_of ys))

-- the bits of a number are those of its high part and those of its low part
pub bits-add : (n k v : ℕ) → bits (n + k) v ≡ bits n (v / 2 ^ k) ++ bits k v
unfolding bits
bits-add zero k v = ap (λ (m : ℕ). bits m v) (zero-add k)
bits-add (suc n) k v =
    ap (λ (m : ℕ). bits m v) (suc-add n k)
    ∙ (ap (λ (b : ℕ). b ∷ bits (n + k) v) (ap (λ (m : ℕ). v / 2 ^ m % 2) (add_comm n k) ∙ ap (λ (m : ℕ). m % 2) (sym (shr-shr v k n)))
    ∙ ap (λ (bs : List ℕ). bit_at (v / 2 ^ k) n ∷ bs) (bits-add n k v))

-- higher bits don't count
pub bits-mod : (n k v : ℕ) → n ≤ k → bits n (v % 2 ^ k) ≡ bits n v
unfolding bits
bits-mod zero k v h = refl
bits-mod (suc n) k v h =
    ap (λ (b : ℕ). b ∷ bits n (v % 2 ^ k)) (sym (bit_at_cat_low (v / 2 ^ k) k (v % 2 ^ k) n (omega arith)) ∙ ap (λ (m : ℕ). bit_at m n) (shr_split v k))
    ∙ ap (λ (bs : List ℕ). bit_at v n ∷ bs) (bits-mod n k v (omega arith))

-- a number that is put together has the bits of its parts
pub bits-cat : (n k a b : ℕ) → b < 2 ^ k → bits (n + k) (a * 2 ^ k + b) ≡ bits n a ++ bits k b
bits-cat n k a b h =
    bits-add n k (a * 2 ^ k + b)
    ∙ (ap (λ (m : ℕ). bits n m ++ bits k (a * 2 ^ k + b)) (shr_high a k b h)
    ∙ ap (λ (bs : List ℕ). bits n a ++ bs) (sym (bits-mod k k (a * 2 ^ k + b) (omega arith)) ∙ ap (bits k) (mod_low a k b h)))

pub bits-zero : (n : ℕ) → bits n 0 ≡ zeros n
unfolding bits zeros
bits-zero zero = refl
bits-zero (suc n) = ap (λ (b : ℕ). b ∷ bits n 0) (bit_at-zero n) ∙ ap (λ (bs : List ℕ). 0 ∷ bs) (bits-zero n)

-- a number's four bytes, the highest first, have its bits
pub bits_of-word : (x : ℕ) → bits_of (to_be_bytes w32 x) ≡ bits 32 x
unfolding bits_of
bits_of-word x =
    sym (first 24 x
    ∙ ap (λ (bs : List ℕ). bits 8 (x / 2 ^ 24 % 2 ^ 8) ++ bs) (first 16 x
    ∙ ap (λ (bs : List ℕ). bits 8 (x / 2 ^ 16 % 2 ^ 8) ++ bs) (first 8 x
    ∙ ap (λ (bs : List ℕ). bits 8 (x / 2 ^ 8 % 2 ^ 8) ++ bs) (byte x ∙ sym (append-nil (bits 8 (x % 2 ^ 8)))))))
  where
    byte : (y : ℕ) → bits 8 y ≡ bits 8 (y % 2 ^ 8)
    byte y = sym (bits-mod 8 8 y (omega arith))

    first : (k y : ℕ) → bits (8 + k) y ≡ bits 8 (y / 2 ^ k % 2 ^ 8) ++ bits k y
    first k y = bits-add 8 k y ∙ ap (λ (bs : List ℕ). bs ++ bits k y) (byte (y / 2 ^ k))

-- shifting left by n leaves the lower bits above n zeros
pub shl_parts : (acc n : ℕ) → n ≤ 64 → (acc * 2 ^ n) % 2 ^ 64 ≡ acc % 2 ^ (64 - n) * 2 ^ n
shl_parts acc n h =
    let whole : 64 - n + n ≡ 64 = omega arith in
    ap (λ (m : ℕ). acc * 2 ^ n % 2 ^ m) (sym whole)
    ∙ (mod-pow-add (acc * 2 ^ n) (64 - n) n
    ∙ (ap (λ (m : ℕ). acc * 2 ^ n / 2 ^ n % 2 ^ (64 - n) * 2 ^ n + m) (mul-mod_left acc (2 ^ n))
    ∙ (add-zero (acc * 2 ^ n / 2 ^ n % 2 ^ (64 - n) * 2 ^ n)
    ∙ ap (λ (m : ℕ). m % 2 ^ (64 - n) * 2 ^ n) (shl-shr acc n))))

-- bits put below those of an accumulator follow them
pub bits-put : (count n acc value : ℕ) → count + n ≤ 64 → value < 2 ^ n
    → bits (count + n) (bit_or (acc * 2 ^ n % 2 ^ 64) value) ≡ bits count acc ++ bits n value
bits-put count n acc value h small =
    ap (bits (count + n)) (ap (λ (m : ℕ). bit_or m value) (shl_parts acc n (omega arith)) ∙ or_shifted (acc % 2 ^ (64 - n)) n value small)
    ∙ (bits-cat count n (acc % 2 ^ (64 - n)) value small
    ∙ ap (λ (bs : List ℕ). bs ++ bits n value) (bits-mod count (64 - n) acc (omega arith)))

-- the bits of the first bytes are the first bits
pub bits_of-take : (m : ℕ) (xs : List ℕ) → m ≤ length xs → bits_of (take m xs) ≡ take (8 * m) (bits_of xs)
bits_of-take m xs h =
    sym (ap (λ (ys : List ℕ). take (8 * m) (bits_of ys)) (sym (take-append-drop m xs))
    ∙ (ap (take (8 * m)) (bits_of-append (take m xs) (drop m xs))
    ∙ take_at (bits_of (take m xs)) (bits_of (drop m xs)) (8 * m) (length-bits_of (take m xs) ∙ ap (λ (k : ℕ). 8 * k) (length-take-le m xs h))))

pub bits_of-taken_word : (m x : ℕ) → m ≤ 4 → bits_of (take m (to_be_bytes w32 x)) ≡ take (8 * m) (bits 32 x)
bits_of-taken_word m x h = bits_of-take m (to_be_bytes w32 x) h ∙ ap (take (8 * m)) (bits_of-word x)

-- a number shifted left is followed by zeros
pub bits-shl : (count n acc : ℕ) → count + n ≤ 64 → bits (count + n) (acc * 2 ^ n % 2 ^ 64) ≡ bits count acc ++ zeros n
bits-shl count n acc h =
    let A : ℕ = acc % 2 ^ (64 - n) in
    let none : 0 < 2 ^ n = pow_pos n in
    ap (bits (count + n)) (shl_parts acc n (omega arith) ∙ sym (add-zero (A * 2 ^ n)))
    ∙ (bits-cat count n A 0 none
    ∙ (ap (λ (bs : List ℕ). bs ++ bits n 0) (bits-mod count (64 - n) acc (omega arith)) ∙ ap (λ (bs : List ℕ). bits count acc ++ bs) (bits-zero n)))

pub bits-at : (n v k : ℕ) → k < n → get_or (bits n v) k 0 ≡ bit_at v (n - 1 - k)
unfolding bits
bits-at zero v k h = absurd (omega arith)
bits-at (suc n) v zero h = ap (bit_at v) (omega arith)
bits-at (suc n) v (suc k) h = bits-at n v k (omega arith) ∙ ap (bit_at v) (omega arith)

-- a number of n bits is known by them
pub bits-same : (n a b : ℕ) → a < 2 ^ n → b < 2 ^ n → bits n a ≡ bits n b → a ≡ b
bits-same n a b ha hb e = same_from_bits_below n a b ha hb (λ i h. at i h)
  where
    at : (i : ℕ) → i < n → bit_at a i ≡ bit_at b i
    at i h =
        let back : n - 1 - (n - 1 - i) ≡ i = omega arith in
        ap (bit_at a) (sym back)
        ∙ (sym (bits-at n a (n - 1 - i) (omega arith))
        ∙ (ap (λ (bs : List ℕ). get_or bs (n - 1 - i) 0) e
        ∙ (bits-at n b (n - 1 - i) (omega arith) ∙ ap (bit_at b) back)))

pub length-zeros : (n : ℕ) → length (zeros n) ≡ n
unfolding zeros
length-zeros n = length-replicate {A = ℕ} n 0

pub zeros-add : (m n : ℕ) → zeros (m + n) ≡ zeros m ++ zeros n
unfolding zeros
zeros-add m n = sym (replicate-append-replicate {A = ℕ} m n 0)

-- the first bits of a list and zeros
pub take_padded : (xs : List ℕ) (m k : ℕ) → length xs ≤ m → m ≤ length xs + k → take m (xs ++ zeros k) ≡ xs ++ zeros (m - length xs)
take_padded xs m k h le =
    let a : ℕ = m - length xs in
    let cut : k ≡ a + (k - a) = omega arith in
    ap (λ (n : ℕ). take m (xs ++ zeros n)) cut
    ∙ (ap (λ (zs : List ℕ). take m (xs ++ zs)) (zeros-add a (k - a))
    ∙ (ap (take m) (sym (append_assoc xs (zeros a) (zeros (k - a))))
    ∙ take_at (xs ++ zeros a) (zeros (k - a)) m (length-append xs (zeros a) ∙ omega (arith, length-zeros a))))

-- two lists that begin with as many elements
pub same_parts : (xs xs' ys ys' : List ℕ) → length xs ≡ length xs' → xs ++ ys ≡ xs' ++ ys' → (xs ≡ xs') × (ys ≡ ys')
same_parts xs xs' ys ys' l e = (
  sym (take_at xs ys (length xs) refl) ∙ (ap (take (length xs)) e ∙ take_at xs' ys' (length xs) (sym l)),
  sym (drop_at xs ys (length xs) refl) ∙ (ap (drop (length xs)) e ∙ drop_at xs' ys' (length xs) (sym l)),
)

-- bytes are known by their bits
pub bits_of_one : (xs ys : List ℕ) → ((i : ℕ) → get_or xs i 0 < 256) → ((i : ℕ) → get_or ys i 0 < 256) → bits_of xs ≡ bits_of ys → xs ≡ ys
unfolding bits_of
bits_of_one [] [] one two e = refl
bits_of_one [] (y ∷ ys) one two e = absurd (omega (arith, ap length e, length-bits_of (y ∷ ys)))
bits_of_one (x ∷ xs) [] one two e = absurd (omega (arith, ap length e, length-bits_of (x ∷ xs)))
bits_of_one (x ∷ xs) (y ∷ ys) one two e =
    let parts = same_parts (bits 8 x) (bits 8 y) (bits_of xs) (bits_of ys) (length-bits 8 x ∙ sym (length-bits 8 y)) e in
    let first : x ≡ y = bits-same 8 x y (one 0) (two 0) parts.0 in
    ap (λ (b : ℕ). b ∷ xs) first ∙ ap (λ (bs : List ℕ). y ∷ bs) (bits_of_one xs ys (λ i. one (suc i)) (λ i. two (suc i)) parts.1)
