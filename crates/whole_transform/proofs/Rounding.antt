-- From sums to samples.
use Rattle.std.proofs.Common.{◌≡◌, ℕ, ◌+◌, ◌*◌, ◌/◌, ◌%◌, ◌^◌, ◌<◌, ◌≤◌, refl, arith, ℤ, pos, negsuc, ◌+ℤ◌, subst, sym, lit≤, List, length, slice_index, ⊎_elim, ◌-ℤ◌, ◌*ℤ◌, ◌≤ℤ◌, ◌<ℤ◌, ap, ◌∙◌, w16, w32, FitsSigned}
use Rattle.std.proofs.lemmas.Int.{ints, clamps, fits_signed_from_abs}
use Rattle.std.specs.Int.RustNames.{unsigned_abs}
use Rattle.std.specs.Int.Signed.{shr_z}
use Rattle.std.specs.Int.{int_max, int_min}
use Rattle.std.proofs.lemmas.List.{get_or_past}
use Rattle.std.proofs.lemmas.Bool.{cases_lt}
use Rattle.whole_transform.specs.Sums.{at}
use Rattle.whole_transform.specs.Transform.{clamped, floored, lane_cell, sample}

pub clamped_is : (z raised lowered : ℤ) → raised ≡ int_max z (pos 4) → lowered ≡ int_min raised (pos 1019) → unsigned_abs lowered ≡ clamped z
unfolding clamped
clamped_is (pos n) raised lowered p q = omega (arith, ints, clamps)
clamped_is (negsuc n) raised lowered p q = omega (arith, ints, clamps)

pub clamped_range : (z : ℤ) → clamped z ≤ 1019
unfolding clamped
clamped_range (pos n) = omega arith
clamped_range (negsuc n) = lit≤ tt

pub sample_range : (z : ℤ) → sample z ≤ 1019
unfolding sample
sample_range z = clamped_range (pos 512 +ℤ floored (z +ℤ pos (2 ^ 29)) (2 ^ 30))

-- a shift to the right rounds down
pub floored_is : (z : ℤ) (d : ℕ) → shr_z z d ≡ floored z d
unfolding floored
floored_is (pos n) d = refl
floored_is (negsuc n) d = refl

pub floored_small : (z : ℤ) → unsigned_abs z ≤ 2 ^ 54 → unsigned_abs (floored z (2 ^ 30)) ≤ 2 ^ 25
unfolding floored
floored_small (pos n) small = omega arith
floored_small (negsuc n) small = omega arith

-- what holds at each place of a block holds at every place
pub all_in_range : (out : List ℕ) → length out ≡ 64 → ((k : ℕ) → k < 64 → slice_index out k ≤ 1019) → (k : ℕ) → slice_index out k ≤ 1019
all_in_range out long within k = ⊎_elim
    (λ (lt : k < 64). within k lt)
    (λ (past : 64 ≤ k). subst (λ (v : ℕ). v ≤ 1019) (sym (get_or_past out k 0 (omega arith))) (lit≤ tt))
    (cases_lt k 64)

-- a quotient rounded down is the whole number of times that the divisor goes in
pub floored_14 : (z : ℤ) → ((pos (2 ^ 14) *ℤ floored z (2 ^ 14)) ≤ℤ z) × (z <ℤ ((pos (2 ^ 14) *ℤ floored z (2 ^ 14)) +ℤ pos (2 ^ 14)))
unfolding floored
floored_14 (pos n) = (omega (arith, ints), omega (arith, ints))
floored_14 (negsuc n) = (omega (arith, ints), omega (arith, ints))

pub floored_16 : (z : ℤ) → ((pos (2 ^ 16) *ℤ floored z (2 ^ 16)) ≤ℤ z) × (z <ℤ ((pos (2 ^ 16) *ℤ floored z (2 ^ 16)) +ℤ pos (2 ^ 16)))
unfolding floored
floored_16 (pos n) = (omega (arith, ints), omega (arith, ints))
floored_16 (negsuc n) = (omega (arith, ints), omega (arith, ints))

pub floored_30 : (z : ℤ) → ((pos (2 ^ 30) *ℤ floored z (2 ^ 30)) ≤ℤ z) × (z <ℤ ((pos (2 ^ 30) *ℤ floored z (2 ^ 30)) +ℤ pos (2 ^ 30)))
unfolding floored
floored_30 (pos n) = (omega (arith, ints), omega (arith, ints))
floored_30 (negsuc n) = (omega (arith, ints), omega (arith, ints))

-- rounding down once or twice is the same, and what is added before is added after
pub floored_twice : (a b : ℤ) →
    floored (a +ℤ (floored (b +ℤ pos 0) (2 ^ 16) +ℤ pos (2 ^ 23 + 2 ^ 13))) (2 ^ 14) ≡ pos 512 +ℤ floored ((pos 65536 *ℤ a +ℤ b) +ℤ pos (2 ^ 29)) (2 ^ 30)
floored_twice a b =
    let inner = floored_16 (b +ℤ pos 0) in
    let outer = floored_14 (a +ℤ (floored (b +ℤ pos 0) (2 ^ 16) +ℤ pos (2 ^ 23 + 2 ^ 13))) in
    let whole = floored_30 ((pos 65536 *ℤ a +ℤ b) +ℤ pos (2 ^ 29)) in
    omega (arith, ints)

-- a number from -2 ^ 15 up to 2 ^ 15 has 16 bits
pub short_of : (z : ℤ) → pos 0 ≤ℤ (z +ℤ pos 32768) → (z +ℤ pos 32768) <ℤ pos 65536 → FitsSigned w16 z
short_of (pos n) least most = record { sfits = omega (arith, ints) }
short_of (negsuc n) least most = record { sfits = omega (arith, ints) }

-- a number in two halves
pub record Halves (value upper : ℤ) : Type 0 where
  pub product_fits : FitsSigned w32 (pos 65536 *ℤ upper)
  pub low_fits : FitsSigned w32 (value -ℤ pos 65536 *ℤ upper)
  pub low_is_short : FitsSigned w16 (value -ℤ pos 65536 *ℤ upper)
  pub whole : value ≡ pos 65536 *ℤ upper +ℤ (value -ℤ pos 65536 *ℤ upper)
  pub high : unsigned_abs upper ≤ 21643
  pub low : unsigned_abs (value -ℤ pos 65536 *ℤ upper) ≤ 2 ^ 15

pub halves_of : (value upper : ℤ) → unsigned_abs value ≤ 2 ^ 15 * 43284 → upper ≡ floored (value +ℤ pos 32768) (2 ^ 16) → Halves value upper
halves_of value upper small e =
    let bounds = floored_16 (value +ℤ pos 32768) in
    record {
      product_fits = fits_signed_from_abs w32 _ (omega (arith, ints));
      low_fits = fits_signed_from_abs w32 _ (omega (arith, ints));
      low_is_short = short_of _ (omega (arith, ints)) (omega (arith, ints));
      whole = omega (arith, ints);
      high = omega (arith, ints);
      low = omega (arith, ints);
    }

-- the sample of a sum in two halves, the upper with one half and 512 besides
pub joined_sample_is : (high low carried shifted : ℤ) (result : ℕ) → carried ≡ floored (low +ℤ pos 0) (2 ^ 16) →
    shifted ≡ floored (high +ℤ carried) (2 ^ 14) → result ≡ clamped shifted → result ≡ sample (pos 65536 *ℤ (high -ℤ pos (2 ^ 23 + 2 ^ 13)) +ℤ low)
unfolding sample
joined_sample_is high low carried shifted result below above e =
    let parts : high +ℤ carried ≡ (high -ℤ pos (2 ^ 23 + 2 ^ 13)) +ℤ (floored (low +ℤ pos 0) (2 ^ 16) +ℤ pos (2 ^ 23 + 2 ^ 13)) = omega (arith, ints, below) in
    e ∙ ap clamped (above ∙ ap (λ (z : ℤ). floored z (2 ^ 14)) parts ∙ floored_twice (high -ℤ pos (2 ^ 23 + 2 ^ 13)) low)

-- what a lower half carries
pub carried_small : (low : ℤ) → unsigned_abs low ≤ 2 ^ 15 * 43284 → unsigned_abs (floored (low +ℤ pos 0) (2 ^ 16)) ≤ 2 ^ 15
carried_small low small = let bounds = floored_16 (low +ℤ pos 0) in omega (arith, ints)

-- a sample is at least 4
pub clamped_least : (z : ℤ) → 4 ≤ clamped z
unfolding clamped
clamped_least (pos n) = omega arith
clamped_least (negsuc n) = lit≤ tt

pub sample_least : (z : ℤ) → 4 ≤ sample z
unfolding sample
sample_least z = clamped_least (pos 512 +ℤ floored (z +ℤ pos (2 ^ 29)) (2 ^ 30))

-- samples of eight blocks side by side, as numbers with a sign, keep their range at each place
pub all_lanes_in_range : (samples : List ℤ) (sums : ℕ → ℕ → ℕ → ℤ) →
    ((b y x : ℕ) → b < 8 → y < 8 → x < 8 → lane_cell samples b y x ≡ pos (sample (sums b y x))) →
    (k : ℕ) → k < 512 → (pos 4 ≤ℤ at samples k) × (at samples k ≤ℤ pos 1019)
all_lanes_in_range samples sums cells k lt =
    let e : 64 * (k / 64) + (8 * (k % 64 / 8) + k % 64 % 8) ≡ k = omega arith in
    subst (λ (i : ℕ). (pos 4 ≤ℤ at samples i) × (at samples i ≤ℤ pos 1019)) e
    (let total = sums (k % 64 % 8) (k / 64) (k % 64 / 8) in
    let same = cells (k % 64 % 8) (k / 64) (k % 64 / 8) (omega arith) (omega arith) (omega arith) in
    let least = sample_least total in
    let most = sample_range total in
    subst (λ (z : ℤ). (pos 4 ≤ℤ z) × (z ≤ℤ pos 1019)) (sym same) (omega (arith, ints), omega (arith, ints)))
