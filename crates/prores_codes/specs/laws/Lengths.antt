-- Laws of the lengths of spellings, and of the numbers that have one: proved here, for proofs to cite.
use Rattle.std.proofs.Common.{◌≡◌, ℕ, ◌+◌, ◌-◌, ◌*◌, ◌/◌, ◌^◌, ◌<◌, ◌≤◌, List, ◌∷◌, ◌++◌, length, refl, ap, ◌∙◌, arith, ◌⊎◌, inl, inr, Bool, true, false, if◌then◌else◌, nat_lt}
use Rattle.std.specs.Int.Count.{count_leading_zeros}
use Rattle.std.proofs.lemmas.List.{length-append}
use Rattle.std.proofs.lemmas.Nat.{pow_pos, div_below, mul-le}
use Rattle.std.proofs.lemmas.Bool.{cases_lt}
use Rattle.bit_io.specs.Bits.{bits, zeros}
use Rattle.bit_io.specs.laws.BitLaws.{length-bits, length-zeros}
use Rattle.prores_codes.specs.declared.code.Code.{Code}
use Rattle.prores_codes.specs.Codes.{Parameters, parameters, combination, order, HasDigits, Spells, IsShort, IsLong, Fits, short_count, long_number}
use Rattle.prores_codes.specs.Choices.{dc_parameters, run_parameters, level_parameters}
use Rattle.prores_codes.specs.laws.Digits.{pow_le, digits_from_leading, digits_most, digits_more}

-- zeros of a short spelling
pub short_zeros : (code : Parameters) (n : ℕ) → n < short_count code → n / 2 ^ code.r ≤ code.a
short_zeros code n small = omega (arith, div_below n (2 ^ code.r) (code.a + 1) (pow_pos code.r) small)

pub short_length : (code : Parameters) (s : List ℕ) (n : ℕ) → IsShort code s n → length s ≡ n / 2 ^ code.r + (1 + code.r)
short_length code s n is =
    ap length is.spelled ∙ (length-append (zeros (n / 2 ^ code.r)) (1 ∷ bits code.r n) ∙ omega (arith, length-zeros (n / 2 ^ code.r), length-bits code.r n))

pub long_more : (code : Parameters) (s : List ℕ) (n : ℕ) → (is : IsLong code s n) → code.e < is.digits
long_more code s n is = digits_more is.digits code.e (long_number code n) is.binary (omega arith)

pub long_length : (code : Parameters) (s : List ℕ) (n : ℕ) → (is : IsLong code s n) → length s + code.e ≡ code.a + 2 * is.digits
long_length code s n is =
    let z : ℕ = code.a + 1 + (is.digits - 1 - code.e) in
    let size : length s ≡ z + is.digits = ap length is.spelled ∙ (length-append (zeros z) (bits is.digits (long_number code n)) ∙ omega (arith, length-zeros z, length-bits is.digits (long_number code n))) in
    omega (arith, size, long_more code s n is)

-- a spelling's length in numbers: its zeros, a one and r low bits, or a and its digits twice, less e
pub record IsLength (code : Parameters) (n size : ℕ) : Type 0 where
  pub cases : ((n < short_count code) × (size ≡ n / 2 ^ code.r + (1 + code.r)))
      ⊎ ((short_count code ≤ n) × ((digits : ℕ) × (size + code.e ≡ code.a + 2 * digits) × HasDigits digits (long_number code n)))

pub length_is : (code : Parameters) (spelling : List ℕ) (n : ℕ) → Spells code spelling n → IsLength code n (length spelling)
length_is code s n spells = record { cases = either spells.cases }
  where
    either : IsShort code s n ⊎ IsLong code s n
        → ((n < short_count code) × (length s ≡ n / 2 ^ code.r + (1 + code.r)))
        ⊎ ((short_count code ≤ n) × ((digits : ℕ) × (length s + code.e ≡ code.a + 2 * digits) × HasDigits digits (long_number code n)))
    either (inl is) = inl (is.small, short_length code s n is)
    either (inr is) = inr (is.large, (is.digits, long_length code s n is, is.binary))

-- a is 2 at most, r 5 and e 6, as in every code of the format
pub record IsNarrow (code : Parameters) : Type 0 where
  pub switch : code.a ≤ 2
  pub rice : code.r ≤ 5
  pub golomb : code.e ≤ 6

pub narrow_code : (code : Code) → IsNarrow (parameters code)
narrow_code code = record { switch = code.switch; rice = code.rice; golomb = code.golomb }

narrow : (a r e : ℕ) → a ≤ 2 → r ≤ 5 → e ≤ 6 → IsNarrow (combination a r e)
narrow a r e switch rice golomb = record { switch = switch; rice = rice; golomb = golomb }

either_narrow : (test : Bool) (p q : Parameters) → IsNarrow p → IsNarrow q → IsNarrow (if test then p else q)
either_narrow true p q one two = one
either_narrow false p q one two = two

pub narrow_first : IsNarrow (order 5)
narrow_first = narrow 0 5 6 (omega arith) (omega arith) (omega arith)

pub narrow_dc : (size : ℕ) → IsNarrow (dc_parameters size)
narrow_dc size =
    either_narrow (nat_lt size 1) (order 0) _ (narrow 0 0 1 (omega arith) (omega arith) (omega arith))
    (either_narrow (nat_lt size 2) (order 1) _ (narrow 0 1 2 (omega arith) (omega arith) (omega arith))
    (either_narrow (nat_lt size 3) (combination 1 2 3) (order 3) (narrow 1 2 3 (omega arith) (omega arith) (omega arith)) (narrow 0 3 4 (omega arith) (omega arith) (omega arith))))

pub narrow_run : (run : ℕ) → IsNarrow (run_parameters run)
narrow_run run =
    either_narrow (nat_lt run 2) (combination 2 0 1) _ (narrow 2 0 1 (omega arith) (omega arith) (omega arith))
    (either_narrow (nat_lt run 4) (combination 1 0 1) _ (narrow 1 0 1 (omega arith) (omega arith) (omega arith))
    (either_narrow (nat_lt run 5) (order 0) _ (narrow 0 0 1 (omega arith) (omega arith) (omega arith))
    (either_narrow (nat_lt run 9) (combination 1 1 2) _ (narrow 1 1 2 (omega arith) (omega arith) (omega arith))
    (either_narrow (nat_lt run 15) (order 1) (order 2) (narrow 0 1 2 (omega arith) (omega arith) (omega arith)) (narrow 0 2 3 (omega arith) (omega arith) (omega arith))))))

pub narrow_level : (size_less_one : ℕ) → IsNarrow (level_parameters size_less_one)
narrow_level size_less_one =
    either_narrow (nat_lt size_less_one 1) (combination 2 0 2) _ (narrow 2 0 2 (omega arith) (omega arith) (omega arith))
    (either_narrow (nat_lt size_less_one 2) (combination 1 0 1) _ (narrow 1 0 1 (omega arith) (omega arith) (omega arith))
    (either_narrow (nat_lt size_less_one 3) (combination 2 0 1) _ (narrow 2 0 1 (omega arith) (omega arith) (omega arith))
    (either_narrow (nat_lt size_less_one 4) (order 0) _ (narrow 0 0 1 (omega arith) (omega arith) (omega arith))
    (either_narrow (nat_lt size_less_one 8) (order 1) (order 2) (narrow 0 1 2 (omega arith) (omega arith) (omega arith)) (narrow 0 2 3 (omega arith) (omega arith) (omega arith))))))

pub short_spells : (code : Parameters) (n : ℕ) → IsNarrow code → n < short_count code → Spells code (zeros (n / 2 ^ code.r) ++ 1 ∷ bits code.r n) n
short_spells code n is_narrow h =
    let is : IsShort code (zeros (n / 2 ^ code.r) ++ 1 ∷ bits code.r n) n = record { small = h; spelled = refl } in
    record { most = omega (arith, short_length code (zeros (n / 2 ^ code.r) ++ 1 ∷ bits code.r n) n is, short_zeros code n h, is_narrow.switch, is_narrow.rice); cases = inl is }

pub long_spells : (code : Parameters) (n d : ℕ) → short_count code ≤ n → HasDigits d (long_number code n) → code.a + 2 * d ≤ 32 + code.e
    → Spells code (zeros (code.a + 1 + (d - 1 - code.e)) ++ bits d (long_number code n)) n
long_spells code n d large has short =
    let s : List ℕ = zeros (code.a + 1 + (d - 1 - code.e)) ++ bits d (long_number code n) in
    let is : IsLong code s n = record { digits = d; large = large; binary = has; spelled = refl } in
    record { most = omega (arith, long_length code s n is); cases = inr is }

-- some numbers have a short spelling
count_pos : (code : Parameters) → 0 < short_count code
count_pos code = omega (arith, pow_pos code.r, mul-le 1 1 (code.a + 1) (2 ^ code.r) (omega arith) (pow_pos code.r))

-- a number of so many digits with 2^e has a spelling, where a long one of so many has at most 32 bits
pub small_fits : (code : Parameters) (n digits : ℕ) → IsNarrow code → n + 2 ^ code.e ≤ 2 ^ digits → code.a + 2 * digits ≤ 32 + code.e → Fits code n
small_fits code n digits is_narrow small short = cases (cases_lt n (short_count code))
  where
    cases : (n < short_count code) ⊎ (short_count code ≤ n) → Fits code n
    cases (inl few) = (zeros (n / 2 ^ code.r) ++ 1 ∷ bits code.r n, short_spells code n is_narrow few)
    cases (inr large) =
        let m : ℕ = long_number code n in
        let some : 0 < 2 ^ code.e = pow_pos code.e in
        let below : m < 2 ^ digits = omega (arith, small, large, some, count_pos code) in
        let d : ℕ = digits - count_leading_zeros digits m in
        let has : HasDigits d m = digits_from_leading digits m (omega (arith, some)) below in
        (zeros (code.a + 1 + (d - 1 - code.e)) ++ bits d m, long_spells code n d large has (omega (arith, digits_most d digits m has below)))

-- a spelling has so many bits at most, if its number has so many digits where it is long
pub small_length : (code : Parameters) (spelling : List ℕ) (n digits most : ℕ) → Spells code spelling n → long_number code n < 2 ^ digits
    → code.a + 1 + code.r ≤ most → code.a + 2 * digits ≤ most + code.e → length spelling ≤ most
small_length code s n digits most spells small short long = cases spells.cases
  where
    cases : IsShort code s n ⊎ IsLong code s n → length s ≤ most
    cases (inl is) = omega (arith, short_length code s n is, short_zeros code n is.small)
    cases (inr is) = omega (arith, long_length code s n is, digits_most is.digits digits (long_number code n) is.binary small)

-- 2^e of a code of the format
narrow_power : (code : Parameters) → IsNarrow code → 2 ^ code.e ≤ 64
narrow_power code is_narrow = pow_le code.e 6 is_narrow.golomb

-- each code of the format has a spelling of each number up to 2^15 - 64
pub each_fits : (code : Parameters) (n : ℕ) → IsNarrow code → n + 64 ≤ 2 ^ 15 → Fits code n
each_fits code n is_narrow small = small_fits code n 15 is_narrow (omega (arith, narrow_power code is_narrow)) (omega (arith, is_narrow.switch))

-- and it spells a number below 2^13 in 30 bits at most
pub each_length : (code : Parameters) (spelling : List ℕ) (n : ℕ) → IsNarrow code → Spells code spelling n → n < 2 ^ 13 → length spelling ≤ 30
each_length code s n is_narrow spells small =
    small_length code s n 14 30 spells (omega (arith, small, narrow_power code is_narrow)) (omega (arith, is_narrow.switch, is_narrow.rice)) (omega (arith, is_narrow.switch))
