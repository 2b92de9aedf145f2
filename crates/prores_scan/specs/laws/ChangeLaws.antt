-- Laws of how far apart levels are: proved here, for proofs to cite.
use Rattle.std.proofs.Common.{◌≡◌, ℕ, ◌+◌, ◌-◌, ◌*◌, ◌/◌, ◌^◌, ◌<◌, ◌≤◌, sym, ap, ap₂, ◌∙◌, arith, pos, negsuc, ◌-ℤ◌, ⊎_elim}
use Rattle.std.specs.Prelude.{ℤ}
use Rattle.std.specs.Int.RustNames.{unsigned_abs}
use Rattle.std.proofs.lemmas.Int.{ints}
use Rattle.std.proofs.lemmas.Bool.{cases_lt}
use Rattle.std.proofs.lemmas.Nat.{div-add-mod', mod_below, div_below}
use Rattle.std.proofs.Math.Nat.{add-mul, mul-le-mul_right}
use Rattle.prores_scan.specs.Levels.{step_of, with_sign_of, nearest_quotient}
use Rattle.prores_scan.specs.ScaledLevels.{signed_of, AreApart}
use Rattle.prores_scan.specs.laws.HalfStepLaws.{nearest_from_half_steps, signed_of-sign_last}

-- how far apart two sizes with signs are, from the sizes
abbrev pub gap : ℤ → ℤ → ℕ → ℕ → ℕ
gap (pos g) (pos h) a b = (b - a) + (a - b)
gap (pos g) (negsuc h) a b = a + b
gap (negsuc g) (pos h) a b = a + b
gap (negsuc g) (negsuc h) a b = (b - a) + (a - b)

pub gap_is : (g h : ℤ) (a b : ℕ) → unsigned_abs (with_sign_of h b -ℤ with_sign_of g a) ≡ gap g h a b
gap_is (pos g) (pos h) a b = omega (arith, ints)
gap_is (pos g) (negsuc h) a b = omega (arith, ints)
gap_is (negsuc g) (pos h) a b = omega (arith, ints)
gap_is (negsuc g) (negsuc h) a b = omega (arith, ints)

-- a rounded quotient, times its divisor, is near the number
pub record IsNear (number quotient double : ℕ) : Type 0 where
  pub low : 2 * (quotient * double) ≤ 2 * number + double
  pub high : 2 * number < 2 * (quotient * double) + double

pub quotient_is_near : (number scale : ℕ) → 1 ≤ scale → IsNear number ((number + scale) / (2 * scale)) (2 * scale)
quotient_is_near number scale some =
    let cut = div-add-mod' (number + scale) (2 * scale) in
    let rest = mod_below (number + scale) (2 * scale) (omega arith) in
    record { low = omega arith; high = omega arith }

-- quotients of numbers far apart are apart
pub below_gap : (m n p q double : ℕ) → IsNear m p double → IsNear n q double → m ≤ n → n ≤ m + (q - p) * double + double
below_gap m n p q double near_m near_n order =
    let low = near_m.low in let high = near_n.high in
    ⊎_elim
    (λ lt. let whole : (q - p) * double + p * double ≡ q * double = sym (add-mul (q - p) p double) ∙ ap (λ k. k * double) (omega arith) in omega arith)
    (λ ge. let wide : q * double ≤ p * double = mul-le-mul_right double ge in omega arith)
    (cases_lt p q)

pub even_gap : (m n p q double : ℕ) → IsNear m p double → IsNear n q double
    → (n - m) + (m - n) ≤ ((q - p) + (p - q)) * double + double
even_gap m n p q double near_m near_n =
    let both = add-mul (q - p) (p - q) double in
    ⊎_elim
    (λ lt. let up = below_gap m n p q double near_m near_n (omega arith) in omega arith)
    (λ ge. let down = below_gap n m q p double near_n near_m ge in omega arith)
    (cases_lt m n)

pub odd_gap : (m n p q double : ℕ) → IsNear m p double → IsNear n q double → m + n ≤ (p + q) * double + double
odd_gap m n p q double near_m near_n =
    let both = add-mul p q double in
    let high_m = near_m.high in let high_n = near_n.high in
    omega arith

pub gap_bound : (g h : ℤ) (m n p q double : ℕ) → IsNear m p double → IsNear n q double
    → gap g h m n ≤ gap g h p q * double + double
gap_bound (pos g) (pos h) m n p q double near_m near_n = even_gap m n p q double near_m near_n
gap_bound (pos g) (negsuc h) m n p q double near_m near_n = odd_gap m n p q double near_m near_n
gap_bound (negsuc g) (pos h) m n p q double near_m near_n = odd_gap m n p q double near_m near_n
gap_bound (negsuc g) (negsuc h) m n p q double near_m near_n = even_gap m n p q double near_m near_n

-- a level's size, from its half steps
pub level_is_near : (g : ℤ) (weight scale : ℕ) → 1 ≤ weight → 1 ≤ scale
    → IsNear (unsigned_abs g / (2 ^ 25 * weight)) (nearest_quotient (unsigned_abs g) (step_of weight scale)) (2 * scale)
level_is_near g weight scale some more =
    rw (nearest_from_half_steps (unsigned_abs g) weight scale some) (quotient_is_near (unsigned_abs g / (2 ^ 25 * weight)) scale more)

-- the bound on how far apart two levels are
pub change_is : (from to scale change : ℕ) → 1 ≤ scale → 1 ≤ change → change ≡ unsigned_abs (signed_of to -ℤ signed_of from)
    → AreApart from to scale ((change - 1) / (2 * scale))
change_is from to scale change more some e g h weight positive given_g given_h =
    let a = unsigned_abs g / (2 ^ 25 * weight) in
    let b = unsigned_abs h / (2 ^ 25 * weight) in
    let p = nearest_quotient (unsigned_abs g) (step_of weight scale) in
    let q = nearest_quotient (unsigned_abs h) (step_of weight scale) in
    let first : signed_of from ≡ with_sign_of g a = ap signed_of given_g ∙ signed_of-sign_last g a in
    let second : signed_of to ≡ with_sign_of h b = ap signed_of given_h ∙ signed_of-sign_last h b in
    let steps : change ≡ gap g h a b = e ∙ (ap₂ (λ (y x : ℤ). unsigned_abs (y -ℤ x)) second first ∙ gap_is g h a b) in
    let levels = gap_is g h p q in
    let bound = gap_bound g h a b p q (2 * scale) (level_is_near g weight scale positive more) (level_is_near h weight scale positive more) in
    let row : (gap g h p q + 1) * (2 * scale) ≡ gap g h p q * (2 * scale) + 1 * (2 * scale) = add-mul (gap g h p q) 1 (2 * scale) in
    let below : (change - 1) / (2 * scale) < gap g h p q + 1 = div_below (change - 1) (2 * scale) (gap g h p q + 1) (omega arith) (omega arith) in
    rw levels (omega arith)
