use Rattle.std.proofs.Common.{◌≡◌, ℕ, ◌+◌, ◌-◌, ◌*◌, ◌/◌, ◌%◌, ◌^◌, ◌<◌, ◌≤◌, List, ◌∷◌, ◌++◌, sym, ap, subst, ◌∙◌, arith, ◌⊎◌, inl, inr}
use Rattle.std.specs.Int.Count.{count_leading_zeros}
use Rattle.std.proofs.Math.Nat.{add_assoc, div-eq_of_lt}
use Rattle.std.proofs.lemmas.Nat.{pow_pos, pow-add, mod_below, shr_high, mod_low, le-div, shr_below, mul-le, leading_length}
use Rattle.bit_io.specs.Bits.{bits, zeros}
use Rattle.bit_io.specs.laws.BitLaws.{length-bits}
use Rattle.prores_codes.specs.Codes.{Parameters, HasDigits, IsShort, IsLong, Fits, short_count, long_number}
use Rattle.prores_codes.specs.inner.Forms.{IsForm, IsFound, many_zeros}
use Rattle.prores_codes.specs.laws.Digits.{pow_le, digits_same, digits_more, numbered, short_bits}
use Rattle.prores_codes.specs.laws.Lengths.{short_zeros, long_length, IsNarrow}

-- a long spelling of at most 32 bits has so few digits
pub fits_digits : (code : Parameters) (n d : ℕ) → Fits code n → short_count code ≤ n → HasDigits d (long_number code n) → code.a + 2 * d ≤ 32 + code.e
fits_digits code n d fits large has = cases fits.1.cases
  where
    cases : IsShort code fits.0 n ⊎ IsLong code fits.0 n → code.a + 2 * d ≤ 32 + code.e
    cases (inl is) = absurd (omega (arith, is.small))
    cases (inr is) = omega (arith, digits_same is.digits d (long_number code n) is.binary has, long_length code fits.0 n is, fits.1.most)

pub short_is_form : (code : Parameters) (n : ℕ) → IsNarrow code → n < short_count code → IsForm code n (n / 2 ^ code.r + 1 + code.r) (2 ^ code.r + n % 2 ^ code.r)
short_is_form code n narrow h =
    let r : ℕ = code.r in
    let z : ℕ = n / 2 ^ r in
    let low : n % 2 ^ r < 2 ^ r = mod_below n (2 ^ r) (pow_pos r) in
    let few : z ≤ code.a = short_zeros code n h in
    let sum : z + (1 + r) ≡ z + 1 + r = sym (add_assoc z 1 r) in
    record {
      most = omega (arith, few, narrow.switch, narrow.rice);
      small = omega (arith, low, pow-add 2 1 r, pow_le (1 + r) (z + 1 + r) (omega arith));
      spelled = λ s spells. cases s sum spells.cases;
    }
  where
    cases : (s : List ℕ) → n / 2 ^ code.r + (1 + code.r) ≡ n / 2 ^ code.r + 1 + code.r → IsShort code s n ⊎ IsLong code s n → s ≡ bits (n / 2 ^ code.r + 1 + code.r) (2 ^ code.r + n % 2 ^ code.r)
    cases s sum (inl is) = is.spelled ∙ (short_bits code.r n ∙ ap (λ (k : ℕ). bits k (2 ^ code.r + n % 2 ^ code.r)) sum)
    cases s sum (inr is) = absurd (omega (arith, is.large))

pub long_is_form : (code : Parameters) (n d : ℕ) → short_count code ≤ n → HasDigits d (long_number code n) → code.a + 2 * d ≤ 32 + code.e
    → IsForm code n (code.a + 2 * d - code.e) (long_number code n)
long_is_form code n d large has short =
    let m : ℕ = long_number code n in
    let more : code.e < d = digits_more d code.e m has (omega arith) in
    record {
      most = omega arith;
      small = omega (arith, has.all, pow_le d (code.a + 2 * d - code.e) (omega arith));
      spelled = λ s spells. cases s more spells.cases;
    }
  where
    cases : (s : List ℕ) → code.e < d → IsShort code s n ⊎ IsLong code s n → s ≡ bits (code.a + 2 * d - code.e) (long_number code n)
    cases s more (inl is) = absurd (omega (arith, is.small))
    cases s more (inr is) =
        let same : is.digits ≡ d = digits_same is.digits d (long_number code n) is.binary has in
        let z : ℕ = code.a + 1 + (is.digits - 1 - code.e) in
        let size : z + is.digits ≡ code.a + 2 * d - code.e = omega arith in
        is.spelled ∙ (sym (numbered z is.digits (long_number code n) is.binary.all) ∙ ap (λ (k : ℕ). bits k (long_number code n)) size)

-- the first bits behind some zeros
tail_range : (next z size : ℕ) → z < size → size ≤ 32 → 2 ^ (31 - z) ≤ next → next < 2 ^ (32 - z) → (2 ^ (size - z - 1) ≤ next / 2 ^ (32 - size)) × (next / 2 ^ (32 - size) < 2 ^ (size - z))
tail_range next z size more most highest all =
    let k : ℕ = 32 - size in
    let low : size - z - 1 + k ≡ 31 - z = omega arith in
    let high : 32 - z ≡ size - z + k = omega arith in
    let product : 2 ^ (size - z - 1) * 2 ^ k ≡ 2 ^ (31 - z) = sym (pow-add 2 (size - z - 1) k) ∙ ap (λ (j : ℕ). 2 ^ j) low in (
      le-div (2 ^ (size - z - 1)) next (2 ^ k) (pow_pos k) (omega (arith, product)),
      shr_below next (size - z) k (subst (λ (j : ℕ). next < 2 ^ j) high all),
    )

-- the first bits are a short spelling
pub found_short : (code : Parameters) (next z : ℕ) → IsNarrow code → z ≤ code.a → 2 ^ (31 - z) ≤ next → next < 2 ^ (32 - z)
    → (2 ^ code.r ≤ next / 2 ^ (32 - (z + 1 + code.r))) × IsFound code next (z + 1 + code.r) (z * 2 ^ code.r + next / 2 ^ (32 - (z + 1 + code.r)) - 2 ^ code.r)
found_short code next z narrow few highest all =
    let r : ℕ = code.r in
    let size : ℕ = z + 1 + r in
    let tail : ℕ = next / 2 ^ (32 - size) in
    let range = tail_range next z size (omega arith) (omega (arith, narrow.switch, narrow.rice)) highest all in
    let one : size - z - 1 ≡ r = omega arith in
    let two : size - z ≡ 1 + r = omega arith in
    let least : 2 ^ r ≤ tail = subst (λ (j : ℕ). 2 ^ j ≤ tail) one range.0 in
    let most : tail < 2 ^ (1 + r) = subst (λ (j : ℕ). tail < 2 ^ j) two range.1 in
    let low : tail - 2 ^ r < 2 ^ r = omega (arith, most, least, pow-add 2 1 r) in
    let n : ℕ = z * 2 ^ r + (tail - 2 ^ r) in
    let same : z * 2 ^ r + tail - 2 ^ r ≡ n = omega (arith, least) in
    let up : n / 2 ^ r ≡ z = shr_high z r (tail - 2 ^ r) low in
    let down : n % 2 ^ r ≡ tail - 2 ^ r = mod_low z r (tail - 2 ^ r) low in
    let whole : 2 ^ r + n % 2 ^ r ≡ tail = omega (arith, down, least) in
    let long : n / 2 ^ r + (1 + r) ≡ size = omega (arith, up) in
    let row : z * 2 ^ r + 2 ^ r ≤ (code.a + 1) * 2 ^ r = omega (arith, mul-le (z + 1) (2 ^ r) (code.a + 1) (2 ^ r) (omega arith) (omega arith)) in
    let spelled : bits size tail ≡ zeros (n / 2 ^ r) ++ 1 ∷ bits r n =
    sym (short_bits r n ∙ (ap (λ (k : ℕ). bits k (2 ^ r + n % 2 ^ r)) long ∙ ap (bits size) whole)) in
    let P : ℕ → Type 0 = λ k. IsFound code next size k in (
      least,
      subst P (sym same) (record {
        most = omega (arith, narrow.switch, narrow.rice);
        spelled = record {
          most = omega (arith, length-bits size tail, narrow.switch, narrow.rice);
          cases = inl (record { small = omega (arith, row, low); spelled = spelled });
        };
      }),
    )

-- the first bits are a long spelling
pub found_long : (code : Parameters) (next z : ℕ) → IsNarrow code → code.a < z → z < many_zeros code → 2 ^ (31 - z) ≤ next → next < 2 ^ (32 - z)
    → (2 ^ code.e ≤ next / 2 ^ (32 - (2 * z + code.e - code.a))) × IsFound code next (2 * z + code.e - code.a) (next / 2 ^ (32 - (2 * z + code.e - code.a)) - 2 ^ code.e + short_count code)
found_long code next z narrow more few highest all =
    let size : ℕ = 2 * z + code.e - code.a in
    let tail : ℕ = next / 2 ^ (32 - size) in
    let d : ℕ = z + code.e - code.a in
    let most : size ≤ 32 = omega (arith, narrow.switch) in
    let range = tail_range next z size (omega arith) most highest all in
    let two : size - z ≡ d = omega arith in
    let one : size - z - 1 ≡ d - 1 = omega arith in
    let has : HasDigits d tail = record { some = omega arith; highest = subst (λ (j : ℕ). 2 ^ j ≤ tail) one range.0; all = subst (λ (j : ℕ). tail < 2 ^ j) two range.1 } in
    let least : 2 ^ code.e ≤ tail = omega (arith, pow_le code.e (d - 1) (omega arith), has.highest) in
    let n : ℕ = tail - 2 ^ code.e + short_count code in
    let same : long_number code n ≡ tail = omega (arith, least) in
    let zeros_same : code.a + 1 + (d - 1 - code.e) ≡ z = omega arith in
    let sum : z + d ≡ size = omega arith in
    let P : ℕ → Type 0 = λ m. HasDigits d m in
    let spelled : bits size tail ≡ zeros (code.a + 1 + (d - 1 - code.e)) ++ bits d (long_number code n) =
    ap (λ (k : ℕ). bits k tail) (sym sum) ∙ (numbered z d tail has.all ∙ (ap (λ (k : ℕ). zeros k ++ bits d tail) (sym zeros_same) ∙ ap (λ (m : ℕ). zeros (code.a + 1 + (d - 1 - code.e)) ++ bits d m) (sym same))) in (
      least,
      record {
        most = most;
        spelled = record {
          most = omega (arith, length-bits size tail);
          cases = inr (record { digits = d; large = omega arith; binary = subst P (sym same) has; spelled = spelled });
        };
      },
    )

-- a number of 32 bits by its leading zeros
pub leading_range : (next : ℕ) → next < 2 ^ 32 → count_leading_zeros 32 next < 32 → (2 ^ (31 - count_leading_zeros 32 next) ≤ next) × (next < 2 ^ (32 - count_leading_zeros 32 next))
leading_range next h few =
    let long = leading_length 32 next h in
    let z : ℕ = count_leading_zeros 32 next in
    let size : 32 - z ≡ long.0 = omega (arith, long.1) in
    let less : long.0 ≡ 1 + (31 - z) = omega (arith, long.1) in
    let half : 2 ^ long.0 ≡ 2 ^ 1 * 2 ^ (31 - z) = ap (λ (j : ℕ). 2 ^ j) less ∙ pow-add 2 1 (31 - z) in
    (omega (arith, half, long.3), subst (λ (j : ℕ). next < 2 ^ j) (sym size) long.2)

pub leading_none : (next c : ℕ) → next < 2 ^ 32 → c ≤ count_leading_zeros 32 next → next / 2 ^ (32 - c) ≡ 0
leading_none next c h many =
    let long = leading_length 32 next h in
    div-eq_of_lt (omega (arith, long.2, pow_le long.0 (32 - c) (omega (arith, long.1))))
