-- Lemmas on specs/inner/Reciprocals.antt.
use Rattle.std.proofs.Common.{◌≡◌, ℕ, ◌+◌, ◌-◌, ◌*◌, ◌/◌, ◌%◌, ◌^◌, ◌<◌, ◌≤◌, sym, ap, ◌∙◌, arith, subst, ⊎_elim, add-one}
use Rattle.std.proofs.lemmas.Nat.{pow-add, shr-shr, div-add-mod', mod_below, div_below, pow_below, pow_pos, leading_top}
use Rattle.std.proofs.lemmas.Bool.{cases_lt, cases_order}
use Rattle.std.proofs.Math.Nat.{mul_assoc, mul_comm, mul-add, add-mul, mul-le-mul_left, mul-le-mul_right, le_of_mul-le-mul_right, lt_of_mul-lt-mul_right, div-eq_of_lt-le}
use Rattle.std.specs.Int.Count.{count_leading_zeros}
use Rattle.prores_scan.specs.inner.Reciprocals.{IsReciprocal}

-- a factor a little above a power over the divisor gives the quotient of each number that it is not too far above for
pub quotient_from : (x divisor factor power : ℕ) → 0 < divisor → power ≤ factor * divisor → factor * divisor < power + divisor
    → x * (divisor - 1) < power → x * factor / power ≡ x / divisor
quotient_from x divisor factor power some low high near =
    let q = x / divisor in
    let cut : q * divisor + x % divisor ≡ x = div-add-mod' x divisor in
    let rest : x % divisor < divisor = mod_below x divisor some in
    let turned : x * factor * divisor ≡ x * (factor * divisor) = mul_assoc x factor divisor in
    let least : x * power ≤ x * (factor * divisor) = mul-le-mul_left x low in
    let most : x * (factor * divisor) ≤ x * (power + (divisor - 1)) = mul-le-mul_left x (omega arith) in
    let split : x * (power + (divisor - 1)) ≡ x * power + x * (divisor - 1) = mul-add x power (divisor - 1) in
    let swap : q * power * divisor ≡ q * divisor * power = mul_assoc q power divisor ∙ (ap (λ n. q * n) (mul_comm power divisor) ∙ sym (mul_assoc q divisor power)) in
    let below : q * divisor * power ≤ x * power = mul-le-mul_right power (omega arith) in
    let next : (q + 1) * power * divisor ≡ (q + 1) * divisor * power = mul_assoc (q + 1) power divisor ∙ (ap (λ n. (q + 1) * n) (mul_comm power divisor) ∙ sym (mul_assoc (q + 1) divisor power)) in
    let row : (q + 1) * divisor ≡ q * divisor + divisor = omega (arith, add-mul q 1 divisor) in
    let above : (x + 1) * power ≤ (q + 1) * divisor * power = mul-le-mul_right power (omega arith) in
    let one : (x + 1) * power ≡ x * power + power = omega (arith, add-mul x 1 power) in
    div-eq_of_lt-le power
    (le_of_mul-le-mul_right {k = divisor} (omega arith) some)
    (lt_of_mul-lt-mul_right divisor (omega arith))

-- what the code computes with a reciprocal
pub quotient_is : (x divisor factor shift : ℕ) → IsReciprocal divisor factor shift → x ≤ 32800
    → x * factor / 2 ^ 16 / 2 ^ shift ≡ x / divisor
quotient_is x divisor factor shift r small =
    let whole : 2 ^ 15 * 2 ^ (shift + 1) ≡ 2 ^ (16 + shift) = sym (pow-add 2 15 (shift + 1)) ∙ ap (λ (n : ℕ). 2 ^ n) (omega arith) in
    let near : x * (divisor - 1) ≤ 32800 * (divisor - 1) = mul-le-mul_right (divisor - 1) small in
    let open_most = r.most in let open_least = r.least in let open_shifted = r.shifted in
    shr-shr (x * factor) 16 shift
    ∙ quotient_from x divisor factor (2 ^ (16 + shift)) (omega arith) r.low r.high (omega arith)

-- the leading zeros of the number before a divisor give the shift
pub record IsShift (divisor shift : ℕ) : Type 0 where
  pub low : 2 ^ shift < divisor
  pub high : divisor ≤ 2 ^ (shift + 1)
  pub short : shift < 10

pub shift_is : (divisor : ℕ) → 2 ≤ divisor → divisor ≤ 1024 → IsShift divisor (15 - count_leading_zeros 16 (divisor - 1))
shift_is divisor least most =
    let top = leading_top 16 (divisor - 1) (omega arith) (omega arith) in
    let j = top.0 in
    let same : 15 - count_leading_zeros 16 (divisor - 1) ≡ j = omega (arith, top.1) in
    let short : j < 10 = ⊎_elim (λ h. h) (λ h. absurd (omega (arith, top.2, reach j h))) (cases_lt j 10) in
    rw same (record {
      low = omega (arith, top.2);
      high = rw add-one (omega (arith, top.3));
      short = short;
    })
  where
    reach : (j : ℕ) → 10 ≤ j → 2 ^ 10 ≤ 2 ^ j
    reach j h = ⊎_elim (λ e. subst (λ (n : ℕ). 2 ^ 10 ≤ 2 ^ n) e (omega arith)) (λ o. ⊎_elim (λ lt. let p = pow_below 10 j lt in omega arith) (λ gt. absurd (omega arith)) o) (cases_order 10 j)

-- the rounded-up quotient is a reciprocal, and fits 16 bits
pub reciprocal_is : (divisor shift : ℕ) → 2 ≤ divisor → divisor ≤ 1024 → IsShift divisor shift
    → IsReciprocal divisor ((2 ^ (16 + shift) + divisor - 1) / divisor) shift × ((2 ^ (16 + shift) + divisor - 1) / divisor < 2 ^ 16)
reciprocal_is divisor shift least most s =
    let power = 2 ^ (16 + shift) in
    let whole : 2 ^ 16 * 2 ^ shift ≡ power = sym (pow-add 2 16 shift) in
    let some : 0 < power = pow_pos (16 + shift) in
    let cut : (power + divisor - 1) / divisor * divisor + (power + divisor - 1) % divisor ≡ power + divisor - 1 = div-add-mod' (power + divisor - 1) divisor in
    let rest : (power + divisor - 1) % divisor < divisor = mod_below (power + divisor - 1) divisor (omega arith) in
    let low = s.low in (
      record { least = least; most = most; shifted = s.high; short = s.short; low = omega arith; high = omega arith },
      div_below (power + divisor - 1) divisor (2 ^ 16) (omega arith) (omega arith),
    )
