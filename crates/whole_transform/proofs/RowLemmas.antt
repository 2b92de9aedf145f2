-- Two sums of a row, at a place and at its mirrored one, from their even and their odd part.
use Rattle.std.proofs.Common.{◌≡◌, ◌∙◌, ℕ, ◌+◌, ◌-◌, ◌*◌, ◌^◌, ◌<◌, ◌≤◌, arith, lit≤, ℤ, pos, ◌+ℤ◌, ◌-ℤ◌, ◌*ℤ◌, subst, sym, w32, to_z, of_z, ap₂}
use Rattle.std.proofs.lemmas.Int.{ints}
use Rattle.std.specs.Int.RustNames.{unsigned_abs}
use Rattle.whole_transform.specs.inner.Passes.{even_of, inverse_of, odd_of}
use Rattle.whole_transform.specs.Transform.{sample}
use Rattle.whole_transform.proofs.WordLemmas.{kept, kept_small}
use Rattle.whole_transform.proofs.Halves.{mirrored_sums, column_small}

-- where sum and difference are small, both sizes together are
pub both_small : (m : ℕ) (a b : ℤ) → unsigned_abs (a +ℤ b) ≤ m → unsigned_abs (a -ℤ b) ≤ m → unsigned_abs a + unsigned_abs b ≤ m
both_small m a b p q = omega (arith, ints)

-- so are those of the even and the odd part of the sums of small values
pub parts_small : (m size : ℕ) (start : ℤ) (f : ℕ → ℤ) (k : ℕ) → k < 4 → unsigned_abs start ≤ size → ((u : ℕ) → u < 8 → unsigned_abs (f u) ≤ m) →
    (even odd : ℤ) → even ≡ even_of start f k → odd ≡ odd_of f k → unsigned_abs even + unsigned_abs odd ≤ m * 43284 + size
parts_small m size start f k lt begun small even odd p q =
    let sums = mirrored_sums start f k lt even odd p q in
    let first = column_small m f small k (omega arith) in
    let last = column_small m f small (7 - k) (omega arith) in
    both_small (m * 43284 + size) even odd
    (subst (λ (z : ℤ). unsigned_abs z ≤ m * 43284 + size) (sym sums.0) (omega (arith, ints)))
    (subst (λ (z : ℤ). unsigned_abs z ≤ m * 43284 + size) (sym sums.1) (omega (arith, ints)))

-- of the upper halves, which begin with one half and 512, and of the lower
pub high_small : (f : ℕ → ℤ) (k : ℕ) → k < 4 → ((u : ℕ) → u < 8 → unsigned_abs (f u) ≤ 21643) →
    (even odd : ℤ) → even ≡ even_of (pos (2 ^ 23 + 2 ^ 13)) f k → odd ≡ odd_of f k → unsigned_abs even + unsigned_abs odd ≤ 21643 * 43284 + (2 ^ 23 + 2 ^ 13)
high_small f k lt small = parts_small 21643 (2 ^ 23 + 2 ^ 13) (pos (2 ^ 23 + 2 ^ 13)) f k lt (lit≤ tt) small

pub low_small : (f : ℕ → ℤ) (k : ℕ) → k < 4 → ((u : ℕ) → u < 8 → unsigned_abs (f u) ≤ 2 ^ 15) →
    (even odd : ℤ) → even ≡ even_of (pos 0) f k → odd ≡ odd_of f k → unsigned_abs even + unsigned_abs odd ≤ 2 ^ 15 * 43284
low_small f k lt small = parts_small (2 ^ 15) 0 (pos 0) f k lt (lit≤ tt) small

-- the code's numbers for the two parts are as small
pub parts_fit : (m : ℕ) (even odd : ℤ) → m < 2 ^ 31 → unsigned_abs even + unsigned_abs odd ≤ m →
    unsigned_abs (to_z w32 (of_z w32 even)) + unsigned_abs (to_z w32 (of_z w32 odd)) < 2 ^ 31
parts_fit m even odd room small = rw (kept w32 even m room (omega arith), kept w32 odd m room (omega arith)) (omega arith)

-- the code's sum and difference of the parts
pub record AreSums (m : ℕ) (even odd first last : ℤ) : Type 0 where
  pub first_small : unsigned_abs (to_z w32 (of_z w32 first)) ≤ m
  pub last_small : unsigned_abs (to_z w32 (of_z w32 last)) ≤ m
  pub first_is : to_z w32 (of_z w32 first) ≡ even +ℤ odd
  pub last_is : to_z w32 (of_z w32 last) ≡ even -ℤ odd

pub are_sums : (m : ℕ) (even odd first last : ℤ) → m < 2 ^ 31 → unsigned_abs even + unsigned_abs odd ≤ m →
    first ≡ to_z w32 (of_z w32 even) +ℤ to_z w32 (of_z w32 odd) → last ≡ to_z w32 (of_z w32 even) -ℤ to_z w32 (of_z w32 odd) →
    AreSums m even odd first last
are_sums m even odd first last room small added taken =
    let even_kept = kept w32 even m room (omega arith) in
    let odd_kept = kept w32 odd m room (omega arith) in
    let sum : first ≡ even +ℤ odd = added ∙ ap₂ (λ (a b : ℤ). a +ℤ b) even_kept odd_kept in
    let difference : last ≡ even -ℤ odd = taken ∙ ap₂ (λ (a b : ℤ). a -ℤ b) even_kept odd_kept in
    let first_bound : unsigned_abs first ≤ m = omega (arith, ints) in
    let last_bound : unsigned_abs last ≤ m = omega (arith, ints) in
    record {
      first_small = kept_small w32 first m room first_bound;
      last_small = kept_small w32 last m room last_bound;
      first_is = kept w32 first m room first_bound ∙ sum;
      last_is = kept w32 last m room last_bound ∙ difference;
    }

-- the samples of the two sums are those of the row's sums, whose upper halves began with one half and 512
pub mirrored_are : (high low : ℕ → ℤ) (k : ℕ) → k < 4 → (even_high odd_high even_low odd_low : ℤ) →
    even_high ≡ even_of (pos (2 ^ 23 + 2 ^ 13)) high k → odd_high ≡ odd_of high k → even_low ≡ even_of (pos 0) low k → odd_low ≡ odd_of low k →
    (sample (pos 65536 *ℤ ((even_high +ℤ odd_high) -ℤ pos (2 ^ 23 + 2 ^ 13)) +ℤ (even_low +ℤ odd_low)) ≡ sample (pos 65536 *ℤ inverse_of high k +ℤ inverse_of low k))
    × (sample (pos 65536 *ℤ ((even_high -ℤ odd_high) -ℤ pos (2 ^ 23 + 2 ^ 13)) +ℤ (even_low -ℤ odd_low)) ≡ sample (pos 65536 *ℤ inverse_of high (7 - k) +ℤ inverse_of low (7 - k)))
mirrored_are high low k lt even_high odd_high even_low odd_low p q r s =
    let above = mirrored_sums (pos (2 ^ 23 + 2 ^ 13)) high k lt even_high odd_high p q in
    let below = mirrored_sums (pos 0) low k lt even_low odd_low r s in
    let first_above : (even_high +ℤ odd_high) -ℤ pos (2 ^ 23 + 2 ^ 13) ≡ inverse_of high k = (let sum = above.0 in omega (arith, ints)) in
    let last_above : (even_high -ℤ odd_high) -ℤ pos (2 ^ 23 + 2 ^ 13) ≡ inverse_of high (7 - k) = (let sum = above.1 in omega (arith, ints)) in
    let first_below : even_low +ℤ odd_low ≡ inverse_of low k = (let sum = below.0 in omega (arith, ints)) in
    let last_below : even_low -ℤ odd_low ≡ inverse_of low (7 - k) = (let sum = below.1 in omega (arith, ints)) in
    (ap₂ (λ (a b : ℤ). sample (pos 65536 *ℤ a +ℤ b)) first_above first_below, ap₂ (λ (a b : ℤ). sample (pos 65536 *ℤ a +ℤ b)) last_above last_below)
