-- The size over 2^25 and the sign of a coefficient, from the sums of the upper and of the lower halves.
use Rattle.std.proofs.Common.{◌≡◌, ◌∙◌, lit≤, slice_index, subst, List, ℕ, ◌+◌, ◌*◌, ◌/◌, ◌^◌, ◌<◌, ◌≤◌, arith, ℤ, pos, negsuc, ◌+ℤ◌, ◌-ℤ◌, ◌*ℤ◌, ◌≤ℤ◌, ◌<ℤ◌, neg_ℤ, w32, FitsSigned}
use Rattle.std.proofs.lemmas.Int.{ints, fits_signed_from_abs}
use Rattle.std.specs.Int.RustNames.{unsigned_abs}
use Rattle.whole_transform.specs.inner.Passes.{IsKept, forward_of}
use Rattle.whole_transform.specs.Transform.{StandsAt, basis, floored, forward_sum, lane_centred, minus_of}
use Rattle.whole_transform.proofs.Halves.{basis_small}
use Rattle.whole_transform.proofs.Rounding.{floored_16}
use Rattle.whole_transform.proofs.SumLemmas.{lane_centred_small, rows_then_columns}

pub floored_9 : (z : ℤ) → ((pos (2 ^ 9) *ℤ floored z (2 ^ 9)) ≤ℤ z) × (z <ℤ ((pos (2 ^ 9) *ℤ floored z (2 ^ 9)) +ℤ pos (2 ^ 9)))
unfolding floored
floored_9 (pos n) = (omega (arith, ints), omega (arith, ints))
floored_9 (negsuc n) = (omega (arith, ints), omega (arith, ints))

pub floored_25 : (z : ℤ) → ((pos (2 ^ 25) *ℤ floored z (2 ^ 25)) ≤ℤ z) × (z <ℤ ((pos (2 ^ 25) *ℤ floored z (2 ^ 25)) +ℤ pos (2 ^ 25)))
unfolding floored
floored_25 (pos n) = (omega (arith, ints), omega (arith, ints))
floored_25 (negsuc n) = (omega (arith, ints), omega (arith, ints))

pub floored_31 : (z : ℤ) → ((pos (2 ^ 31) *ℤ floored z (2 ^ 31)) ≤ℤ z) × (z <ℤ ((pos (2 ^ 31) *ℤ floored z (2 ^ 31)) +ℤ pos (2 ^ 31)))
unfolding floored
floored_31 (pos n) = (omega (arith, ints), omega (arith, ints))
floored_31 (negsuc n) = (omega (arith, ints), omega (arith, ints))

-- what a lower half carries
pub carried_short : (low sign carried : ℤ) → unsigned_abs low < 2 ^ 30 → unsigned_abs sign ≤ 1 → carried ≡ floored (low +ℤ sign) (2 ^ 16) →
    unsigned_abs carried ≤ 2 ^ 14 + 1
carried_short low sign carried small one e = let bounds = floored_16 (low +ℤ sign) in omega (arith, ints)

-- the sum of the halves has the sign of the whole
pub sign_of_total : (total high low carried sign : ℤ) → total ≡ pos 65536 *ℤ high +ℤ low → unsigned_abs high < 2 ^ 30 → unsigned_abs low < 2 ^ 30 →
    carried ≡ floored (low +ℤ pos 0) (2 ^ 16) → sign ≡ floored (high +ℤ carried) (2 ^ 31) → sign ≡ neg_ℤ (pos (minus_of total))
sign_of_total (pos n) high low carried sign whole high_small low_small below above =
    let inner = floored_16 (low +ℤ pos 0) in let outer = floored_31 (high +ℤ carried) in omega (arith, ints)
sign_of_total (negsuc n) high low carried sign whole high_small low_small below above =
    let inner = floored_16 (low +ℤ pos 0) in let outer = floored_31 (high +ℤ carried) in omega (arith, ints)

-- rounding down once or twice is the same
pub steps_of_total : (high low sign carried steps : ℤ) → carried ≡ floored (low +ℤ sign) (2 ^ 16) → steps ≡ floored (high +ℤ carried) (2 ^ 9) →
    steps ≡ floored ((pos 65536 *ℤ high +ℤ low) +ℤ sign) (2 ^ 25)
steps_of_total high low sign carried steps below above =
    let inner = floored_16 (low +ℤ sign) in
    let outer = floored_9 (high +ℤ carried) in
    let whole = floored_25 ((pos 65536 *ℤ high +ℤ low) +ℤ sign) in
    omega (arith, ints)

-- a number that is a coefficient's size over 2^25
pub record IsSize (total size : ℤ) : Type 0 where
  pub fits : FitsSigned w32 size
  pub least : pos 0 ≤ℤ size
  pub most : unsigned_abs size ≤ 32772
  pub same : unsigned_abs size ≡ unsigned_abs total / 2 ^ 25

-- of one below 0, after 1 is taken: the floor of -z / m is minus 1 less that of (z - 1) / m
pub size_below : (total sign steps : ℤ) → unsigned_abs total ≤ 512 * 46344 ^ 2 → sign ≡ neg_ℤ (pos (minus_of total)) →
    steps ≡ floored (total +ℤ sign) (2 ^ 25) → sign <ℤ pos 0 → IsSize total (negsuc 0 -ℤ steps)
size_below (pos n) sign steps small e f below = absurd (omega (arith, ints))
size_below (negsuc n) sign steps small e f below =
    let bounds = floored_25 (negsuc n +ℤ sign) in
    record {
      fits = fits_signed_from_abs w32 _ (omega (arith, ints));
      least = omega (arith, ints);
      most = omega (arith, ints);
      same = omega (arith, ints);
    }

pub size_above : (total sign steps : ℤ) → unsigned_abs total ≤ 512 * 46344 ^ 2 → sign ≡ neg_ℤ (pos (minus_of total)) →
    steps ≡ floored (total +ℤ sign) (2 ^ 25) → pos 0 ≤ℤ sign → IsSize total steps
size_above (negsuc n) sign steps small e f above = absurd (omega (arith, ints))
size_above (pos n) sign steps small e f above =
    let bounds = floored_25 (pos n +ℤ sign) in
    record {
      fits = fits_signed_from_abs w32 _ (omega (arith, ints));
      least = omega (arith, ints);
      most = omega (arith, ints);
      same = omega (arith, ints);
    }

-- what stands at a place that is kept
pub stands_kept : {sizes negative new_sizes new_negative : List ℕ} {place : ℕ} {total : ℤ} → StandsAt sizes negative place total →
    IsKept sizes negative new_sizes new_negative place → StandsAt new_sizes new_negative place total
stands_kept stands kept = record { size = kept.size ∙ stands.size; sign = kept.sign ∙ stands.sign }

pub kept_twice : {sizes negative mid_sizes mid_negative new_sizes new_negative : List ℕ} {place : ℕ} → IsKept sizes negative mid_sizes mid_negative place →
    IsKept mid_sizes mid_negative new_sizes new_negative place → IsKept sizes negative new_sizes new_negative place
kept_twice first second = record { size = second.size ∙ first.size; sign = second.sign ∙ first.sign }

-- sizes and signs of small coefficients are small
pub minus_small : (z : ℤ) → minus_of z ≤ 1
minus_small (pos n) = lit≤ tt
minus_small (negsuc n) = lit≤ tt

pub stands_in_range : {sizes negative : List ℕ} {place : ℕ} {total : ℤ} → StandsAt sizes negative place total → unsigned_abs total ≤ 512 * 46344 ^ 2 →
    (slice_index sizes place ≤ 32772) × (slice_index negative place ≤ 1)
stands_in_range {total = total} stands small = (omega arith, (let one = minus_small total in omega arith))

-- so are coefficients of samples below 1024
pub forward_small : (samples : List ℕ) (b v u : ℕ) → ((k : ℕ) → slice_index samples k < 1024) → v < 8 → u < 8 →
    unsigned_abs (forward_sum (lane_centred samples b) v u) ≤ 512 * 46344 ^ 2
unfolding forward_sum
forward_small samples b v u small v_lt u_lt =
    subst (λ (z : ℤ). unsigned_abs z ≤ 512 * 46344 ^ 2) (rows_then_columns 8 8 (basis v) (basis u) (lane_centred samples b))
    (basis_small (512 * 46344) (λ y. forward_of (lane_centred samples b y) u)
    (λ y y_lt. basis_small 512 (lane_centred samples b y) (λ x x_lt. lane_centred_small samples b y x (small (64 * y + (8 * x + b)))) u u_lt) v v_lt)
