use Rattle.std.proofs.Common.{◌≡◌, ℕ, zero, suc, ◌+◌, ◌-◌, ◌*◌, ◌/◌, ◌%◌, ◌^◌, ◌<◌, ◌≤◌, List, [], ◌∷◌, ◌++◌, length, take, drop, refl, sym, ap, ◌∙◌, arith, get_or, ◌⊎◌, inl, inr}
use Rattle.std.specs.Prelude.{bit_or}
use Rattle.std.specs.Int.{from_be_bytes, w32}
use Rattle.std.proofs.lemmas.List.{length-append, append_assoc, append-nil, take_at, drop_more, drop_all, take-take, take-append-le}
use Rattle.std.proofs.lemmas.Nat.{pow-add, shl-shr, shr-shr, shr_split, or_shifted, shl_whole, shl_below, mod-pow-add, be_bytes_4, pow_pos}
use Rattle.std.proofs.Math.Nat.{add-zero, mul-mod_left, mul_assoc, add-mul}
use Rattle.std.proofs.lemmas.Bool.{cases_lt}
use Rattle.bit_io.specs.Bits.{bits, bits_of, zeros}
use Rattle.bit_io.specs.inner.Window.{highest, bits_left, IsLoaded, IsReady}
use Rattle.bit_io.specs.laws.BitLaws.{length-bits, bits-add, bits-mod, bits-cat, bits-zero, bits_of-word, bits_of-append, take_padded, shl_parts}

-- a word with nothing but zeros below s is its upper part, shifted
pub upper : (word s : ℕ) → word % 2 ^ s ≡ 0 → word ≡ word / 2 ^ s * 2 ^ s
upper word s e = omega (arith, shr_split word s)

pub length-highest : (count word : ℕ) → length (highest count word) ≡ count
unfolding highest
length-highest count word = length-bits count (word / 2 ^ (64 - count))

-- what a shifted number's parts are
pub highest_of : (count word v : ℕ) → word ≡ v * 2 ^ (64 - count) → (highest count word ≡ bits count v) × (word % 2 ^ (64 - count) ≡ 0)
unfolding highest
highest_of count word v e = (
  ap (bits count) (ap (λ (m : ℕ). m / 2 ^ (64 - count)) e ∙ shl-shr v (64 - count)),
  ap (λ (m : ℕ). m % 2 ^ (64 - count)) e ∙ mul-mod_left v (2 ^ (64 - count)),
)

-- k more bits are loaded
pub loaded_word : (count k word next : ℕ) → count + k ≤ 64 → next < 2 ^ k → word % 2 ^ (64 - count) ≡ 0
    → bit_or word (next * 2 ^ (64 - (count + k)) % 2 ^ 64) ≡ (word / 2 ^ (64 - count) * 2 ^ k + next) * 2 ^ (64 - (count + k))
loaded_word count k word next h small e =
    let s : ℕ = 64 - (count + k) in
    let W : ℕ = word / 2 ^ (64 - count) in
    let cut : 64 - count ≡ k + s = omega arith in
    let whole : next * 2 ^ s % 2 ^ 64 ≡ next * 2 ^ s = shl_whole next k s 64 small (omega arith) in
    let high : word ≡ W * 2 ^ (k + s) = upper word (64 - count) e ∙ ap (λ (j : ℕ). W * 2 ^ j) cut in
    ap (λ (m : ℕ). bit_or word m) whole
    ∙ (ap (λ (m : ℕ). bit_or m (next * 2 ^ s)) high
    ∙ (or_shifted W (k + s) (next * 2 ^ s) (shl_below next k s small)
    ∙ (ap (λ (m : ℕ). m + next * 2 ^ s) (ap (λ (m : ℕ). W * m) (pow-add 2 k s) ∙ sym (mul_assoc W (2 ^ k) (2 ^ s))) ∙ sym (add-mul (W * 2 ^ k) next (2 ^ s)))))

-- the bits of k more loaded bits follow
pub loaded_bits : (count k word next : ℕ) → count + k ≤ 64 → next < 2 ^ k → word % 2 ^ (64 - count) ≡ 0
    → highest (count + k) (bit_or word (next * 2 ^ (64 - (count + k)) % 2 ^ 64)) ≡ highest count word ++ bits k next
unfolding highest
loaded_bits count k word next h small e =
    (highest_of (count + k) (bit_or word (next * 2 ^ (64 - (count + k)) % 2 ^ 64)) (word / 2 ^ (64 - count) * 2 ^ k + next) (loaded_word count k word next h small e)).0
    ∙ bits-cat count k (word / 2 ^ (64 - count)) next small

pub loaded_behind : (count k word next : ℕ) → count + k ≤ 64 → next < 2 ^ k → word % 2 ^ (64 - count) ≡ 0
    → bit_or word (next * 2 ^ (64 - (count + k)) % 2 ^ 64) % 2 ^ (64 - (count + k)) ≡ 0
loaded_behind count k word next h small e =
    (highest_of (count + k) (bit_or word (next * 2 ^ (64 - (count + k)) % 2 ^ 64)) (word / 2 ^ (64 - count) * 2 ^ k + next) (loaded_word count k word next h small e)).1

-- the first n of the loaded bits are shifted out
passed_word : (count n word : ℕ) → n ≤ count → count ≤ 64 → word % 2 ^ (64 - count) ≡ 0
    → word * 2 ^ n % 2 ^ 64 ≡ (word / 2 ^ (64 - count) % 2 ^ (count - n)) * 2 ^ (64 - (count - n))
passed_word count n word h small e =
    let s : ℕ = 64 - count in
    let W : ℕ = word / 2 ^ s in
    let cut : 64 - n ≡ count - n + s = omega arith in
    let whole : 64 - (count - n) ≡ s + n = omega arith in
    let low : word % 2 ^ (64 - n) ≡ W % 2 ^ (count - n) * 2 ^ s =
    ap (λ (j : ℕ). word % 2 ^ j) cut ∙ (mod-pow-add word (count - n) s ∙ omega (arith, e)) in
    shl_parts word n (omega arith)
    ∙ (ap (λ (m : ℕ). m * 2 ^ n) low
    ∙ (mul_assoc (W % 2 ^ (count - n)) (2 ^ s) (2 ^ n)
    ∙ ap (λ (m : ℕ). W % 2 ^ (count - n) * m) (sym (pow-add 2 s n) ∙ ap (λ (j : ℕ). 2 ^ j) (sym whole))))

pub passed_behind : (count n word : ℕ) → n ≤ count → count ≤ 64 → word % 2 ^ (64 - count) ≡ 0 → (word * 2 ^ n % 2 ^ 64) % 2 ^ (64 - (count - n)) ≡ 0
passed_behind count n word h small e = (highest_of (count - n) (word * 2 ^ n % 2 ^ 64) (word / 2 ^ (64 - count) % 2 ^ (count - n)) (passed_word count n word h small e)).1

pub passed_bits : (count n word : ℕ) → n ≤ count → count ≤ 64 → word % 2 ^ (64 - count) ≡ 0
    → highest count word ≡ bits n (word / 2 ^ (64 - count) / 2 ^ (count - n)) ++ highest (count - n) (word * 2 ^ n % 2 ^ 64)
unfolding highest
passed_bits count n word h small e =
    let W : ℕ = word / 2 ^ (64 - count) in
    let cut : count ≡ n + (count - n) = omega arith in
    ap (λ (k : ℕ). bits k W) cut
    ∙ (bits-add n (count - n) W
    ∙ ap (λ (bs : List ℕ). bits n (W / 2 ^ (count - n)) ++ bs)
    (sym ((highest_of (count - n) (word * 2 ^ n % 2 ^ 64) (W % 2 ^ (count - n)) (passed_word count n word h small e)).0 ∙ bits-mod (count - n) (count - n) W (omega arith))))

-- the bits at a place begin with those of the byte there
pub byte_there : (bytes : List ℕ) (at : ℕ) → at < length bytes → bits_of (drop at bytes) ≡ bits 8 (get_or bytes at 0) ++ bits_of (drop (at + 1) bytes)
unfolding bits_of
byte_there bytes at h = ap bits_of (drop_more bytes at 0 h)

-- the bits at a place begin with those of the four bytes there
pub word_there : (bytes : List ℕ) (at n : ℕ) → at + 4 ≤ length bytes → ((i : ℕ) → get_or bytes i 0 < 256)
    → n ≡ from_be_bytes w32 (get_or bytes at 0 ∷ get_or bytes (at + 1) 0 ∷ get_or bytes (at + 2) 0 ∷ get_or bytes (at + 3) 0 ∷ [])
    → bits_of (drop at bytes) ≡ bits 32 n ++ bits_of (drop (at + 4) bytes)
word_there bytes at n h small e =
    let four : List ℕ = get_or bytes at 0 ∷ get_or bytes (at + 1) 0 ∷ get_or bytes (at + 2) 0 ∷ get_or bytes (at + 3) 0 ∷ [] in
    ap bits_of (cut ∙ refl)
    ∙ (bits_of-append four (drop (at + 4) bytes)
    ∙ ap (λ (bs : List ℕ). bs ++ bits_of (drop (at + 4) bytes)) (ap bits_of (sym (be_bytes_4 four n refl each e)) ∙ bits_of-word n))
  where
    step : (k : ℕ) → k < 4 → drop (at + k) bytes ≡ get_or bytes (at + k) 0 ∷ drop (at + (k + 1)) bytes
    step k lt = drop_more bytes (at + k) 0 (omega arith) ∙ ap (λ (j : ℕ). get_or bytes (at + k) 0 ∷ drop j bytes) (omega arith)

    cut : drop at bytes ≡ (get_or bytes at 0 ∷ get_or bytes (at + 1) 0 ∷ get_or bytes (at + 2) 0 ∷ get_or bytes (at + 3) 0 ∷ []) ++ drop (at + 4) bytes
    cut = drop_more bytes at 0 (omega arith)
        ∙ ap (λ (ys : List ℕ). get_or bytes at 0 ∷ ys) (step 1 (omega arith)
        ∙ ap (λ (ys : List ℕ). get_or bytes (at + 1) 0 ∷ ys) (step 2 (omega arith)
        ∙ ap (λ (ys : List ℕ). get_or bytes (at + 2) 0 ∷ ys) (step 3 (omega arith))))

    each : (i : ℕ) → get_or (get_or bytes at 0 ∷ get_or bytes (at + 1) 0 ∷ get_or bytes (at + 2) 0 ∷ get_or bytes (at + 3) 0 ∷ []) i 0 < 256
    each zero = small at
    each (suc zero) = small (at + 1)
    each (suc (suc zero)) = small (at + 2)
    each (suc (suc (suc zero))) = small (at + 3)
    each (suc (suc (suc (suc i)))) = omega arith

-- where fewer than 32 bits are loaded there are no others
pub all_loaded : (bytes : List ℕ) (at count : ℕ) → IsReady bytes at count → count < 32 → bits_of (drop at bytes) ≡ []
unfolding bits_of
all_loaded bytes at count ready few = ap bits_of (drop_all at bytes (end (cases_lt at (length bytes))))
  where
    end : (at < length bytes) ⊎ (length bytes ≤ at) → length bytes ≤ at
    end (inl lt) = let full : 32 ≤ count = ready lt in absurd (omega arith)
    end (inr le) = le

shown_full : (word count : ℕ) (rest : List ℕ) → 32 ≤ count → count ≤ 64 → bits 32 (word / 2 ^ 32) ≡ take 32 (highest count word ++ rest)
unfolding highest
shown_full word count rest h small =
    let W : ℕ = word / 2 ^ (64 - count) in
    let first : List ℕ = bits 32 (W / 2 ^ (count - 32)) in
    let sum : 64 - count + (count - 32) ≡ 32 = omega arith in
    let cut : count ≡ 32 + (count - 32) = omega arith in
    let down : W / 2 ^ (count - 32) ≡ word / 2 ^ 32 = shr-shr word (64 - count) (count - 32) ∙ ap (λ (j : ℕ). word / 2 ^ j) sum in
    let split : bits count W ≡ first ++ bits (count - 32) W = ap (λ (k : ℕ). bits k W) cut ∙ bits-add 32 (count - 32) W in
    sym (ap (λ (bs : List ℕ). take 32 (bs ++ rest)) split
    ∙ (ap (take 32) (append_assoc first (bits (count - 32) W) rest)
    ∙ (take_at first (bits (count - 32) W ++ rest) 32 (length-bits 32 (W / 2 ^ (count - 32)))
    ∙ ap (bits 32) down)))

shown_last : (word count : ℕ) → count < 32 → word % 2 ^ (64 - count) ≡ 0 → bits 32 (word / 2 ^ 32) ≡ take 32 (highest count word ++ zeros 32)
unfolding highest
shown_last word count few e =
    let W : ℕ = word / 2 ^ (64 - count) in
    let none : 0 < 2 ^ (32 - count) = pow_pos (32 - count) in
    let cut : 64 - count ≡ 32 - count + 32 = omega arith in
    let high : word ≡ W * 2 ^ (32 - count) * 2 ^ 32 =
    upper word (64 - count) e ∙ (ap (λ (j : ℕ). W * 2 ^ j) cut ∙ (ap (λ (m : ℕ). W * m) (pow-add 2 (32 - count) 32) ∙ sym (mul_assoc W (2 ^ (32 - count)) (2 ^ 32)))) in
    let down : word / 2 ^ 32 ≡ W * 2 ^ (32 - count) + 0 = ap (λ (m : ℕ). m / 2 ^ 32) high ∙ (shl-shr (W * 2 ^ (32 - count)) 32 ∙ sym (add-zero (W * 2 ^ (32 - count)))) in
    let whole : 32 ≡ count + (32 - count) = omega arith in
    let rest : 32 - length (bits count W) ≡ 32 - count = omega (arith, length-bits count W) in
    ap (bits 32) down
    ∙ (ap (λ (k : ℕ). bits k (W * 2 ^ (32 - count) + 0)) whole
    ∙ (bits-cat count (32 - count) W 0 none
    ∙ (ap (λ (bs : List ℕ). bits count W ++ bs) (bits-zero (32 - count) ∙ ap zeros (sym rest))
    ∙ sym (take_padded (bits count W) 32 32 (omega (arith, length-bits count W)) (omega (arith, length-bits count W))))))

-- the highest 32 bits of the word are the next bits, with zeros behind them
pub shown : (bytes : List ℕ) (at word count : ℕ) → IsLoaded bytes at word count → IsReady bytes at count
    → bits 32 (word / 2 ^ 32) ≡ take 32 (bits_left bytes at word count ++ zeros 32)
unfolding bits_left
shown bytes at word count is ready = cases (cases_lt count 32)
  where
    cases : (count < 32) ⊎ (32 ≤ count) → bits 32 (word / 2 ^ 32) ≡ take 32 ((highest count word ++ bits_of (drop at bytes)) ++ zeros 32)
    cases (inl few) =
        shown_last word count few is.behind
        ∙ ap (λ (bs : List ℕ). take 32 (bs ++ zeros 32)) (sym (append-nil (highest count word)) ∙ ap (λ (bs : List ℕ). highest count word ++ bs) (sym (all_loaded bytes at count ready few)))
    cases (inr full) =
        shown_full word count (bits_of (drop at bytes) ++ zeros 32) full is.room
        ∙ ap (take 32) (sym (append_assoc (highest count word) (bits_of (drop at bytes)) (zeros 32)))

-- n bits are loaded where they are left
pub length-left : (bytes : List ℕ) (at word count n : ℕ) → IsReady bytes at count → n ≤ 32 → (n ≤ count → n ≤ length (bits_left bytes at word count)) × (n ≤ length (bits_left bytes at word count) → n ≤ count)
unfolding bits_left highest
length-left bytes at word count n ready small = (there, back (cases_lt count 32))
  where
    total : length (bits count (word / 2 ^ (64 - count)) ++ bits_of (drop at bytes)) ≡ count + length (bits_of (drop at bytes))
    total = length-append (bits count (word / 2 ^ (64 - count))) (bits_of (drop at bytes)) ∙ omega (arith, length-bits count (word / 2 ^ (64 - count)))

    there : n ≤ count → n ≤ length (bits count (word / 2 ^ (64 - count)) ++ bits_of (drop at bytes))
    there h = omega (arith, total)

    back : (count < 32) ⊎ (32 ≤ count) → n ≤ length (bits count (word / 2 ^ (64 - count)) ++ bits_of (drop at bytes)) → n ≤ count
    back (inl few) h = omega (arith, total, ap length (all_loaded bytes at count ready few))
    back (inr full) h = omega arith

-- the bits left stay the same where more of them are loaded
pub left_more : (bytes : List ℕ) (at word count m k next more : ℕ) → highest (count + k) more ≡ highest count word ++ bits k next → bits_of (drop at bytes) ≡ bits k next ++ bits_of (drop (at + m) bytes)
    → bits_left bytes (at + m) more (count + k) ≡ bits_left bytes at word count
unfolding bits_left
left_more bytes at word count m k next more e there =
    ap (λ (bs : List ℕ). bs ++ bits_of (drop (at + m) bytes)) e
    ∙ (append_assoc (highest count word) (bits k next) (bits_of (drop (at + m) bytes)) ∙ ap (λ (bs : List ℕ). highest count word ++ bs) (sym there))

-- bits that are passed over stand before those that are left
pub passed_left : (bytes : List ℕ) (at word count n : ℕ) → IsLoaded bytes at word count → n ≤ count
    → bits_left bytes at word count ≡ take n (bits_left bytes at word count) ++ bits_left bytes at (word * 2 ^ n % 2 ^ 64) (count - n)
unfolding bits_left
passed_left bytes at word count n is h =
    let first : List ℕ = bits n (word / 2 ^ (64 - count) / 2 ^ (count - n)) in
    let rest : List ℕ = highest (count - n) (word * 2 ^ n % 2 ^ 64) ++ bits_of (drop at bytes) in
    let split : highest count word ++ bits_of (drop at bytes) ≡ first ++ rest =
    ap (λ (bs : List ℕ). bs ++ bits_of (drop at bytes)) (passed_bits count n word h is.room is.behind)
    ∙ append_assoc first (highest (count - n) (word * 2 ^ n % 2 ^ 64)) (bits_of (drop at bytes)) in
    split ∙ ap (λ (bs : List ℕ). bs ++ rest) (sym (ap (take n) split ∙ take_at first rest n (length-bits n (word / 2 ^ (64 - count) / 2 ^ (count - n)))))

pub passed_loaded : (bytes : List ℕ) (at word count n : ℕ) → IsLoaded bytes at word count → n ≤ count → IsLoaded bytes at (word * 2 ^ n % 2 ^ 64) (count - n)
passed_loaded bytes at word count n is h = record {
  within = is.within;
  room = omega (arith, is.room);
  done = omega (arith, is.done);
  behind = passed_behind count n word h is.room is.behind;
}

-- the first n of the 32 bits that are shown
pub first_bits : (left : List ℕ) (peek n : ℕ) → n ≤ 32 → n ≤ length left → bits 32 peek ≡ take 32 (left ++ zeros 32) → bits n (peek / 2 ^ (32 - n)) ≡ take n left
first_bits left peek n h there e =
    let whole : 32 ≡ n + (32 - n) = omega arith in
    let value : ℕ = peek / 2 ^ (32 - n) in
    let split : bits 32 peek ≡ bits n value ++ bits (32 - n) peek = ap (λ (k : ℕ). bits k peek) whole ∙ bits-add n (32 - n) peek in
    sym (take_at (bits n value) (bits (32 - n) peek) n (length-bits n value))
    ∙ (ap (take n) (sym split ∙ e)
    ∙ (take-take n 32 (left ++ zeros 32) h ∙ take-append-le n left (zeros 32) there))
