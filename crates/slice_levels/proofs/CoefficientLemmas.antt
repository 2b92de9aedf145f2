-- The coefficients of one of eight blocks that stand side by side.
use Rattle.std.proofs.Common.{◌≡◌, ℕ, ◌+◌, ◌*◌, ◌/◌, ◌%◌, ◌<◌, ap, subst, ◌∙◌, arith, ℤ, pos, negsuc, ◌-ℤ◌, refl, List, slice_index}
use Rattle.prores_scan.specs.declared.scans.Scan.{Scan}
use Rattle.prores_scan.specs.HalfSteps.{IsSized, sign_bit, half_steps_of}
use Rattle.prores_scan.specs.Scans.{place_of}
use Rattle.whole_transform.specs.Transform.{IsForwardOfEach, centred, forward_sum, lane_centred, minus_of}
use Rattle.slice_levels.specs.Coefficients.{coefficient}
use Rattle.slice_levels.specs.inner.Weighed.{IsWeighed}
use Rattle.slice_levels.specs.laws.PlaceLaws.{place_below}
use Rattle.slice_levels.specs.laws.SumLaws.{forward_ext}

same_sign : (g : ℤ) → minus_of g ≡ sign_bit g
same_sign (pos n) = refl
same_sign (negsuc n) = refl

-- a lane has the sizes and signs of its block's coefficients
sized_at : (block samples sizes negative : List ℕ) (lane p : ℕ) → p < 64 → lane < 8 → IsForwardOfEach samples sizes negative
    → ((q : ℕ) → q < 64 → slice_index samples (8 * q + lane) ≡ slice_index block q)
    → IsSized (forward_sum (centred block) (p / 8) (p % 8)) (slice_index sizes (8 * p + lane)) (slice_index negative (8 * p + lane))
sized_at block samples sizes negative lane p p_lt lane_lt each same =
    let stands = each lane (p / 8) (p % 8) lane_lt (omega arith) (omega arith) in
    let place : 64 * (p / 8) + (8 * (p % 8) + lane) ≡ 8 * p + lane = omega arith in
    let g = forward_ext (lane_centred samples lane) (centred block) (p / 8) (p % 8)
    (λ y x y_lt x_lt. let there : 64 * y + (8 * x + lane) ≡ 8 * (8 * y + x) + lane = omega arith in
    ap (λ (n : ℕ). pos n -ℤ pos 512) (ap (slice_index samples) there ∙ same (8 * y + x) (omega arith))) in
    subst (λ (z : ℤ). IsSized z (slice_index sizes (8 * p + lane)) (slice_index negative (8 * p + lane))) g
    (subst (λ (n : ℕ). IsSized (forward_sum (lane_centred samples lane) (p / 8) (p % 8)) (slice_index sizes n) (slice_index negative n)) place
    (record { whole = stands.size; signed = stands.sign ∙ same_sign (forward_sum (lane_centred samples lane) (p / 8) (p % 8)) }))

-- so its half steps are those of the block
pub lane_half_steps : (scan : Scan) (block samples sizes negative : List ℕ) (lane k weight half_steps : ℕ) → k < 64 → lane < 8
    → IsForwardOfEach samples sizes negative
    → ((q : ℕ) → q < 64 → slice_index samples (8 * q + lane) ≡ slice_index block q)
    → IsWeighed sizes negative (8 * place_of scan k + lane) weight half_steps
    → half_steps ≡ half_steps_of (coefficient scan block k) weight
lane_half_steps scan block samples sizes negative lane k weight half_steps k_lt lane_lt each same weighed =
    weighed.value (coefficient scan block k)
    (sized_at block samples sizes negative lane (place_of scan k) (place_below scan k k_lt) lane_lt each same)
