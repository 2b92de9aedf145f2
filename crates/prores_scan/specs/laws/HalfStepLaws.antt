-- Laws of half steps and of the levels that they give: proved here, for proofs to cite.
use Rattle.std.proofs.Common.{◌≡◌, ◌↔◌, ℕ, zero, suc, ◌+◌, ◌-◌, ◌*◌, ◌/◌, ◌%◌, ◌^◌, ◌<◌, ◌≤◌, refl, sym, ap, ◌∙◌, arith, pos, negsuc, ⊎_elim}
use Rattle.std.proofs.lemmas.Bool.{cases_lt}
use Rattle.std.specs.Prelude.{ℤ, Bool, true, false, ◌==◌, if◌then◌else◌, neg_ℤ}
use Rattle.std.specs.Int.RustNames.{unsigned_abs}
use Rattle.std.proofs.lemmas.Nat.{div_below}
use Rattle.std.proofs.Math.Nat.{mul_assoc, mul_left_comm, add-mul, mul-le-mul_left, le-div_iff_mul-le, div-div-eq-div-mul, add-mul-div_left}
use Rattle.prores_scan.specs.Levels.{step_of, with_sign_of, nearest_quotient, level_of}
use Rattle.prores_scan.specs.HalfSteps.{sign_bit, sign_last, half_steps_of}
use Rattle.prores_scan.specs.ScaledLevels.{signed_of}
use Rattle.prores_scan.specs.laws.LevelLaws.{abs-with_sign_of}

-- the rounded quotient comes from the half steps, cut to a whole number
pub nearest_from_half_steps : (size weight scale : ℕ) → 1 ≤ weight
    → nearest_quotient size (step_of weight scale) ≡ (size / (2 ^ 25 * weight) + scale) / (2 * scale)
nearest_from_half_steps size weight scale some =
    let half = 2 ^ 25 * weight in
    let double : 2 ^ 26 * weight ≡ half * 2 = omega arith in
    let step : step_of weight scale ≡ half * (2 * scale) = ap (λ (n : ℕ). n * scale) double ∙ mul_assoc half 2 scale in
    let twice : half * (2 * scale) ≡ 2 * (half * scale) = sym (mul_assoc half 2 scale) ∙ (ap (λ (n : ℕ). n * scale) (omega arith) ∙ mul_assoc 2 half scale) in
    let middle : step_of weight scale / 2 ≡ half * scale = omega arith in
    ap (λ (n : ℕ). (size + n) / step_of weight scale) middle
    ∙ (ap (λ (n : ℕ). (size + half * scale) / n) step
    ∙ (sym (div-div-eq-div-mul (size + half * scale) half (2 * scale))
    ∙ ap (λ (n : ℕ). n / (2 * scale)) (add-mul-div_left size scale {y = half} (omega arith))))

pub sign_bit-le : (g : ℤ) → sign_bit g ≤ 1
sign_bit-le (pos n) = omega arith
sign_bit-le (negsuc n) = omega arith

-- what a size with its sign as the last bit means
pub signed_of-sign_last : (g : ℤ) (size : ℕ) → signed_of (sign_last g size) ≡ with_sign_of g size
signed_of-sign_last (pos n) size =
    let even : (2 * size + 0) % 2 ≡ 0 = omega arith in
    let half : (2 * size + 0) / 2 ≡ size = omega arith in
    rw (even, half) refl
signed_of-sign_last (negsuc n) size =
    let odd : (2 * size + 1) % 2 ≡ 1 = omega arith in
    let half : (2 * size + 1) / 2 ≡ size = omega arith in
    rw (odd, half) refl

-- the half steps' size is the number without its last bit
pub half_steps-size : (g : ℤ) (weight : ℕ) → half_steps_of g weight / 2 ≡ unsigned_abs g / (2 ^ 25 * weight)
half_steps-size g weight = omega (arith, sign_bit-le g)

-- the half steps of a coefficient below 2 ^ 41 have 15 bits
pub half_steps_are_short : (g : ℤ) (weight : ℕ) → 4 ≤ weight → unsigned_abs g < 2 ^ 41 → half_steps_of g weight < 2 ^ 15
half_steps_are_short g weight least small =
    omega (arith, sign_bit-le g, div_below (unsigned_abs g) (2 ^ 25 * weight) (2 ^ 14) (omega arith) (omega arith))

-- a level's size comes from that of the half steps
pub level_size : (g : ℤ) (weight scale : ℕ) → 1 ≤ weight
    → unsigned_abs (level_of g weight scale) ≡ (half_steps_of g weight / 2 + scale) / (2 * scale)
level_size g weight scale some =
    abs-with_sign_of g (nearest_quotient (unsigned_abs g) (step_of weight scale))
    ∙ (nearest_from_half_steps (unsigned_abs g) weight scale some
    ∙ ap (λ (n : ℕ). (n + scale) / (2 * scale)) (sym (half_steps-size g weight)))

-- a level's size has 14 bits
pub level_is_small : (g : ℤ) (weight scale : ℕ) → 4 ≤ weight → 1 ≤ scale → unsigned_abs g < 2 ^ 41 → unsigned_abs (level_of g weight scale) ≤ 2 ^ 13
level_is_small g weight scale least some small =
    let short = half_steps_are_short g weight least small in
    let below = div_below (half_steps_of g weight / 2 + scale) (2 * scale) (2 ^ 13 + 1) (omega arith) (omega arith) in
    omega (arith, below, level_size g weight scale (omega arith))

-- the level comes from the half steps' size and sign
pub level_from_half_steps : (g : ℤ) (weight scale v : ℕ) → 1 ≤ weight → v ≡ half_steps_of g weight
    → signed_of (2 * ((v / 2 + scale) / (2 * scale)) + v % 2) ≡ level_of g weight scale
level_from_half_steps g weight scale v some e =
    let size = unsigned_abs g / (2 ^ 25 * weight) in
    let half : v / 2 ≡ size = ap (λ n. n / 2) e ∙ half_steps-size g weight in
    let bit : v % 2 ≡ sign_bit g = omega (arith, sign_bit-le g, e) in
    rw (half, bit) (signed_of-sign_last g ((size + scale) / (2 * scale)))
    ∙ ap (with_sign_of g) (sym (nearest_from_half_steps (unsigned_abs g) weight scale some))

-- a level has this size or more exactly where the half steps have reached the size less a half, in steps
pub reached_size : (g : ℤ) (weight scale size : ℕ) → 1 ≤ weight → 1 ≤ scale → 1 ≤ size
    → (size ≤ unsigned_abs (level_of g weight scale)) ↔ ((2 * size - 1) * (2 * scale) ≤ half_steps_of g weight)
reached_size g weight scale size some more one =
    let v = half_steps_of g weight in
    let level = level_size g weight scale some in
    let product : size * (2 * scale) ≡ 2 * (size * scale) = mul_left_comm size 2 scale in
    let next : (2 * size - 1) * (2 * scale) + 1 * (2 * scale) ≡ 2 * size * (2 * scale) =
    sym (add-mul (2 * size - 1) 1 (2 * scale)) ∙ ap (λ (n : ℕ). n * (2 * scale)) (omega arith) in
    let twice : 2 * size * (2 * scale) ≡ 2 * (size * (2 * scale)) = mul_assoc 2 size (2 * scale) in
    let test = le-div_iff_mul-le {k = 2 * scale} {x = size} {y = v / 2 + scale} (omega arith) in (
      λ h. let reached : size * (2 * scale) ≤ v / 2 + scale = test.0 (rw (← level) h) in omega arith,
      λ h. rw level (test.1 (omega arith)),
    )

abs_zero : (z : ℤ) → unsigned_abs z ≡ 0 → z ≡ pos 0
abs_zero (pos n) e = ap pos e
abs_zero (negsuc n) e = absurd (omega arith)

-- a level is 0 exactly where the half steps are below twice the scale
pub zero_level : (g : ℤ) (weight scale : ℕ) → 1 ≤ weight → 1 ≤ scale → (level_of g weight scale ≡ pos 0) ↔ (half_steps_of g weight < 2 * scale)
zero_level g weight scale some more =
    let level = unsigned_abs (level_of g weight scale) in
    let test = reached_size g weight scale 1 some more (omega arith) in (
      λ h. let none : level ≡ 0 = ap unsigned_abs h in
          ⊎_elim (λ lt. lt) (λ ge. absurd (omega (arith, none, test.1 (omega arith)))) (cases_lt (half_steps_of g weight) (2 * scale)),
      λ h. abs_zero (level_of g weight scale) (⊎_elim (λ lt. omega arith) (λ ge. absurd (omega (arith, h, test.0 ge))) (cases_lt level 1)),
    )

-- the sizes of a coefficient's levels don't rise with the scale
pub sizes_fall : (g : ℤ) (weight from to : ℕ) → 1 ≤ weight → 1 ≤ from → from ≤ to
    → unsigned_abs (level_of g weight to) ≤ unsigned_abs (level_of g weight from)
sizes_fall g weight from to some more order = below (unsigned_abs (level_of g weight to)) (omega arith)
  where
    below : (size : ℕ) → size ≤ unsigned_abs (level_of g weight to) → size ≤ unsigned_abs (level_of g weight from)
    below zero h = omega arith
    below (suc n) h =
        let high = (reached_size g weight to (suc n) some (omega arith) (omega arith)).0 h in
        let low : (2 * suc n - 1) * (2 * from) ≤ (2 * suc n - 1) * (2 * to) = mul-le-mul_left (2 * suc n - 1) (omega arith) in
        (reached_size g weight from (suc n) some more (omega arith)).1 (omega (arith, low, high))

abs-either : (even : Bool) (size : ℕ) → unsigned_abs (if even then pos size else neg_ℤ (pos size)) ≡ size
abs-either true size = refl
abs-either false zero = refl
abs-either false (suc size) = refl

-- the size of what a number means is the number without its last bit
pub signed_size : (number : ℕ) → unsigned_abs (signed_of number) ≡ number / 2
signed_size number = abs-either (number % 2 == 0) (number / 2)

-- 0 and 1 are the two numbers that mean 0
pub signed_zero : (number : ℕ) → (signed_of number ≡ pos 0) ↔ (number ≤ 1)
signed_zero number = (
  λ h. let none : unsigned_abs (signed_of number) ≡ 0 = ap unsigned_abs h in omega (arith, none, signed_size number),
  λ h. abs_zero (signed_of number) (omega (arith, h, signed_size number)),
)
