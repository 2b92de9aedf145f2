-- Laws of the fewest bits by each code of the format: proved here, for proofs to cite.
use Rattle.std.proofs.Common.{◌≡◌, ℕ, ◌+◌, ◌-◌, ◌*◌, ◌/◌, ◌^◌, ◌<◌, ◌≤◌, List, length, arith, refl, Bool, true, false, if◌then◌else◌, nat_lt, ◌⊎◌, inl, inr}
use Rattle.std.proofs.lemmas.Bool.{cases_lt, ltb-false}
use Rattle.prores_codes.specs.Codes.{Parameters, Spells, HasDigits, combination, order}
use Rattle.prores_codes.specs.Choices.{dc_parameters, run_parameters, level_parameters}
use Rattle.prores_codes.specs.laws.Digits.{pow_le, digits_more}
use Rattle.prores_codes.specs.laws.Lengths.{IsLength, length_is}
use Rattle.slice_parts.specs.Bound.{saved, least_run, least_size, least_change}
use Rattle.slice_parts.specs.laws.LeastBits.{saved_some, saved_two, run_below, size_below, change_below}

-- a number of few digits is small
under : (d k m : ℕ) → HasDigits d m → d ≤ k → m < 2 ^ k
under d k m has h = omega (arith, has.all, pow_le d k h)

-- no more bits than those of a spelling: shown of a short one, and of a long one by its digits
low_by : (a r e n size least : ℕ) → IsLength (combination a r e) n size
    → ((n < (a + 1) * 2 ^ r) → least ≤ n / 2 ^ r + (1 + r))
    → ((d : ℕ) → (a + 1) * 2 ^ r ≤ n → HasDigits d (n - (a + 1) * 2 ^ r + 2 ^ e) → least + e ≤ a + 2 * d) → least ≤ size
low_by a r e n size least is short long = cases is.cases
  where
    cases : ((n < (a + 1) * 2 ^ r) × (size ≡ n / 2 ^ r + (1 + r))) ⊎ (((a + 1) * 2 ^ r ≤ n) × ((d : ℕ) × (size + e ≡ a + 2 * d) × HasDigits d (n - (a + 1) * 2 ^ r + 2 ^ e))) → least ≤ size
    cases (inl p) = omega (arith, short p.0, p.1)
    cases (inr p) = omega (arith, long p.1.0 p.0 p.1.2, p.1.1)

-- the fewest bits are no more than those by this code
abbrev Low : (ℕ → ℕ) → Parameters → Type 0
Low least p = (s : List ℕ) (n : ℕ) → Spells p s n → least n ≤ length s

either : (least : ℕ → ℕ) (b : Bool) (p q : Parameters) → Low least p → Low least q → Low least (if b then p else q)
either least true p q h k = h
either least false p q h k = k

-- a run has no fewer bits by this code than by one that saves none, but for so many
abbrev LowBut : ℕ → Parameters → Type 0
LowBut extra p = (s : List ℕ) (n : ℕ) → Spells p s n → least_run n + saved n ≤ length s + extra

run_201 : LowBut 0 (combination 2 0 1)
run_201 s n by =
    omega (
      arith,
      low_by 2 0 1 n (length s) (least_run n + saved n) (length_is (combination 2 0 1) s n by)
          (λ h. short h (cases_lt n 1) (cases_lt n 2))
          (λ d h has. long d h has (cases_lt d 3) (cases_lt d 4)),
    )
  where
    short : n < 3 → (n < 1) ⊎ (1 ≤ n) → (n < 2) ⊎ (2 ≤ n) → least_run n + saved n ≤ n / 1 + 1
    short h (inl lt) y = omega (arith, (run_below n).under_1 lt)
    short h (inr ge) (inl lt) = omega (arith, ge, (run_below n).under_2 lt)
    short h (inr ge) (inr two) = omega (arith, two, (run_below n).under_3 h)

    long : (d : ℕ) → 3 ≤ n → HasDigits d (n - 3 + 2) → (d < 3) ⊎ (3 ≤ d) → (d < 4) ⊎ (4 ≤ d) → least_run n + saved n + 1 ≤ 2 + 2 * d
    long d h has (inl lt) y =
        omega (arith, h, digits_more d 1 (n - 3 + 2) has (omega (arith, h)), (run_below n).under_6 (omega (arith, h, under d 2 (n - 3 + 2) has (omega (arith, lt)))))
    long d h has (inr ge_3) (inl lt) =
        omega (arith, h, ge_3, (run_below n).under_15 (omega (arith, h, under d 3 (n - 3 + 2) has (omega (arith, lt)))))
    long d h has (inr ge_3) (inr ge_4) =
        omega (arith, h, ge_4, (run_below n).most)

run_101 : LowBut 0 (combination 1 0 1)
run_101 s n by =
    omega (
      arith,
      low_by 1 0 1 n (length s) (least_run n + saved n) (length_is (combination 1 0 1) s n by)
          (λ h. short h (cases_lt n 1))
          (λ d h has. long d h has (cases_lt d 3) (cases_lt d 4) (cases_lt d 5)),
    )
  where
    short : n < 2 → (n < 1) ⊎ (1 ≤ n) → least_run n + saved n ≤ n / 1 + 1
    short h (inl lt) = omega (arith, (run_below n).under_1 lt)
    short h (inr ge) = omega (arith, ge, (run_below n).under_2 h)

    long : (d : ℕ) → 2 ≤ n → HasDigits d (n - 2 + 2) → (d < 3) ⊎ (3 ≤ d) → (d < 4) ⊎ (4 ≤ d) → (d < 5) ⊎ (5 ≤ d) → least_run n + saved n + 1 ≤ 1 + 2 * d
    long d h has (inl lt) x_4 x_5 =
        omega (arith, h, digits_more d 1 (n - 2 + 2) has (omega (arith, h)), (run_below n).under_4 (omega (arith, h, under d 2 (n - 2 + 2) has (omega (arith, lt)))))
    long d h has (inr ge_3) (inl lt) x_5 =
        omega (arith, h, ge_3, (run_below n).under_8 (omega (arith, h, under d 3 (n - 2 + 2) has (omega (arith, lt)))))
    long d h has (inr ge_3) (inr ge_4) (inl lt) =
        omega (arith, h, ge_4, (run_below n).under_16 (omega (arith, h, under d 4 (n - 2 + 2) has (omega (arith, lt)))))
    long d h has (inr ge_3) (inr ge_4) (inr ge_5) =
        omega (arith, h, ge_5, (run_below n).most)

run_001 : LowBut 1 (order 0)
run_001 s n by =
    omega (
      arith,
      low_by 0 0 1 n (length s) (least_run n + saved n - 1) (length_is (order 0) s n by)
          (λ h. omega (arith, h, (run_below n).under_1 (omega (arith, h))))
          (λ d h has. long d h has (cases_lt d 3) (cases_lt d 4) (cases_lt d 5)),
    )
  where
    long : (d : ℕ) → 1 ≤ n → HasDigits d (n - 1 + 2) → (d < 3) ⊎ (3 ≤ d) → (d < 4) ⊎ (4 ≤ d) → (d < 5) ⊎ (5 ≤ d) → least_run n + saved n - 1 + 1 ≤ 0 + 2 * d
    long d h has (inl lt) x_4 x_5 =
        omega (arith, h, digits_more d 1 (n - 1 + 2) has (omega (arith, h)), (run_below n).under_3 (omega (arith, h, under d 2 (n - 1 + 2) has (omega (arith, lt)))))
    long d h has (inr ge_3) (inl lt) x_5 =
        omega (arith, h, ge_3, (run_below n).under_8 (omega (arith, h, under d 3 (n - 1 + 2) has (omega (arith, lt)))))
    long d h has (inr ge_3) (inr ge_4) (inl lt) =
        omega (arith, h, ge_4, (run_below n).under_15 (omega (arith, h, under d 4 (n - 1 + 2) has (omega (arith, lt)))))
    long d h has (inr ge_3) (inr ge_4) (inr ge_5) =
        omega (arith, h, ge_5, (run_below n).most)

run_112 : LowBut 1 (combination 1 1 2)
run_112 s n by =
    omega (
      arith,
      low_by 1 1 2 n (length s) (least_run n + saved n - 1) (length_is (combination 1 1 2) s n by)
          (λ h. short h (cases_lt n 2))
          (λ d h has. long d h has (cases_lt d 4) (cases_lt d 5)),
    )
  where
    short : n < 4 → (n < 2) ⊎ (2 ≤ n) → least_run n + saved n - 1 ≤ n / 2 + 2
    short h (inl lt) = omega (arith, (run_below n).under_2 lt)
    short h (inr ge) = omega (arith, ge, (run_below n).under_4 h)

    long : (d : ℕ) → 4 ≤ n → HasDigits d (n - 4 + 4) → (d < 4) ⊎ (4 ≤ d) → (d < 5) ⊎ (5 ≤ d) → least_run n + saved n - 1 + 2 ≤ 1 + 2 * d
    long d h has (inl lt) x_5 =
        omega (arith, h, digits_more d 2 (n - 4 + 4) has (omega (arith, h)), (run_below n).under_8 (omega (arith, h, under d 3 (n - 4 + 4) has (omega (arith, lt)))))
    long d h has (inr ge_4) (inl lt) =
        omega (arith, h, ge_4, (run_below n).under_16 (omega (arith, h, under d 4 (n - 4 + 4) has (omega (arith, lt)))))
    long d h has (inr ge_4) (inr ge_5) =
        omega (arith, h, ge_5, (run_below n).most)

run_012 : LowBut 1 (order 1)
run_012 s n by =
    omega (
      arith,
      low_by 0 1 2 n (length s) (least_run n + saved n - 1) (length_is (order 1) s n by)
          (λ h. omega (arith, h, (run_below n).under_2 (omega (arith, h))))
          (λ d h has. long d h has (cases_lt d 4) (cases_lt d 5)),
    )
  where
    long : (d : ℕ) → 2 ≤ n → HasDigits d (n - 2 + 4) → (d < 4) ⊎ (4 ≤ d) → (d < 5) ⊎ (5 ≤ d) → least_run n + saved n - 1 + 2 ≤ 0 + 2 * d
    long d h has (inl lt) x_5 =
        omega (arith, h, digits_more d 2 (n - 2 + 4) has (omega (arith, h)), (run_below n).under_6 (omega (arith, h, under d 3 (n - 2 + 4) has (omega (arith, lt)))))
    long d h has (inr ge_4) (inl lt) =
        omega (arith, h, ge_4, (run_below n).under_15 (omega (arith, h, under d 4 (n - 2 + 4) has (omega (arith, lt)))))
    long d h has (inr ge_4) (inr ge_5) =
        omega (arith, h, ge_5, (run_below n).most)

run_023 : LowBut 2 (order 2)
run_023 s n by =
    omega (
      arith,
      low_by 0 2 3 n (length s) (least_run n + saved n - 2) (length_is (order 2) s n by)
          (λ h. omega (arith, h, (run_below n).under_4 (omega (arith, h))))
          (λ d h has. long d h has (cases_lt d 5)),
    )
  where
    long : (d : ℕ) → 4 ≤ n → HasDigits d (n - 4 + 8) → (d < 5) ⊎ (5 ≤ d) → least_run n + saved n - 2 + 3 ≤ 0 + 2 * d
    long d h has (inl lt) =
        omega (arith, h, digits_more d 3 (n - 4 + 8) has (omega (arith, h)), (run_below n).under_15 (omega (arith, h, under d 4 (n - 4 + 8) has (omega (arith, lt)))))
    long d h has (inr ge_5) =
        omega (arith, h, ge_5, (run_below n).most)

-- the same of the code behind a run
abbrev LowBehind : ℕ → Parameters → Type 0
LowBehind before p = (s : List ℕ) (n : ℕ) → Spells p s n → least_run n + saved n ≤ length s + saved before

either_behind : (before : ℕ) (b : Bool) (p q : Parameters) → (b ≡ true → LowBehind before p) → (b ≡ false → LowBehind before q) → LowBehind before (if b then p else q)
either_behind before true p q h k = h refl
either_behind before false p q h k = k refl

but : (extra before : ℕ) (p : Parameters) → extra ≤ saved before → LowBut extra p → LowBehind before p
but extra before p some low s n by = omega (arith, some, low s n by)

-- a run has no fewer bits than by a code that saves none, but for those that its own code may save
pub run_is_low : (before : ℕ) (s : List ℕ) (n : ℕ) → Spells (run_parameters before) s n → least_run n + saved n ≤ length s + saved before
run_is_low before =
    either_behind before (nat_lt before 2) (combination 2 0 1) _ (λ e. but 0 before (combination 2 0 1) (omega arith) run_201)
    (λ e_2. either_behind before (nat_lt before 4) (combination 1 0 1) _ (λ e. but 0 before (combination 1 0 1) (omega arith) run_101)
    (λ e_4. either_behind before (nat_lt before 5) (order 0) _ (λ e. but 1 before (order 0) (saved_some before (ltb-false before 4 e_4)) run_001)
    (λ e_5. either_behind before (nat_lt before 9) (combination 1 1 2) _ (λ e. but 1 before (combination 1 1 2) (saved_some before (ltb-false before 4 e_4)) run_112)
    (λ e_9. either_behind before (nat_lt before 15) (order 1) (order 2) (λ e. but 1 before (order 1) (saved_some before (ltb-false before 4 e_4)) run_012)
    (λ e_15. but 2 before (order 2) (saved_two before (ltb-false before 15 e_15)) run_023)))))

size_202 : Low least_size (combination 2 0 2)
size_202 s n by =
    low_by 2 0 2 n (length s) (least_size n) (length_is (combination 2 0 2) s n by)
    (λ h. short h (cases_lt n 1) (cases_lt n 2))
    (λ d h has. long d h has (cases_lt d 4) (cases_lt d 5) (cases_lt d 6))
  where
    short : n < 3 → (n < 1) ⊎ (1 ≤ n) → (n < 2) ⊎ (2 ≤ n) → least_size n ≤ n / 1 + 1
    short h (inl lt) y = omega (arith, (size_below n).under_1 lt)
    short h (inr ge) (inl lt) = omega (arith, ge, (size_below n).under_2 lt)
    short h (inr ge) (inr two) = omega (arith, two, (size_below n).under_4 (omega (arith, h)))

    long : (d : ℕ) → 3 ≤ n → HasDigits d (n - 3 + 4) → (d < 4) ⊎ (4 ≤ d) → (d < 5) ⊎ (5 ≤ d) → (d < 6) ⊎ (6 ≤ d) → least_size n + 2 ≤ 2 + 2 * d
    long d h has (inl lt) x_5 x_6 =
        omega (arith, h, digits_more d 2 (n - 3 + 4) has (omega (arith, h)), (size_below n).under_12 (omega (arith, h, under d 3 (n - 3 + 4) has (omega (arith, lt)))))
    long d h has (inr ge_4) (inl lt) x_6 =
        omega (arith, h, ge_4, digits_more d 2 (n - 3 + 4) has (omega (arith, h)), (size_below n).under_28 (omega (arith, h, under d 4 (n - 3 + 4) has (omega (arith, lt)))))
    long d h has (inr ge_4) (inr ge_5) (inl lt) =
        omega (arith, h, ge_4, ge_5, digits_more d 2 (n - 3 + 4) has (omega (arith, h)), (size_below n).under_60 (omega (arith, h, under d 5 (n - 3 + 4) has (omega (arith, lt)))))
    long d h has (inr ge_4) (inr ge_5) (inr ge_6) =
        omega (arith, h, ge_6, (size_below n).most)

size_101 : Low least_size (combination 1 0 1)
size_101 s n by =
    low_by 1 0 1 n (length s) (least_size n) (length_is (combination 1 0 1) s n by)
    (λ h. short h (cases_lt n 1))
    (λ d h has. long d h has (cases_lt d 3) (cases_lt d 4) (cases_lt d 5) (cases_lt d 6))
  where
    short : n < 2 → (n < 1) ⊎ (1 ≤ n) → least_size n ≤ n / 1 + 1
    short h (inl lt) = omega (arith, (size_below n).under_1 lt)
    short h (inr ge) = omega (arith, ge, (size_below n).under_2 h)

    long : (d : ℕ) → 2 ≤ n → HasDigits d (n - 2 + 2) → (d < 3) ⊎ (3 ≤ d) → (d < 4) ⊎ (4 ≤ d) → (d < 5) ⊎ (5 ≤ d) → (d < 6) ⊎ (6 ≤ d) → least_size n + 1 ≤ 1 + 2 * d
    long d h has (inl lt) x_4 x_5 x_6 =
        omega (arith, h, digits_more d 1 (n - 2 + 2) has (omega (arith, h)), (size_below n).under_4 (omega (arith, h, under d 2 (n - 2 + 2) has (omega (arith, lt)))))
    long d h has (inr ge_3) (inl lt) x_5 x_6 =
        omega (arith, h, ge_3, digits_more d 1 (n - 2 + 2) has (omega (arith, h)), (size_below n).under_12 (omega (arith, h, under d 3 (n - 2 + 2) has (omega (arith, lt)))))
    long d h has (inr ge_3) (inr ge_4) (inl lt) x_6 =
        omega (arith, h, ge_3, ge_4, digits_more d 1 (n - 2 + 2) has (omega (arith, h)), (size_below n).under_28 (omega (arith, h, under d 4 (n - 2 + 2) has (omega (arith, lt)))))
    long d h has (inr ge_3) (inr ge_4) (inr ge_5) (inl lt) =
        omega (arith, h, ge_3, ge_4, ge_5, digits_more d 1 (n - 2 + 2) has (omega (arith, h)), (size_below n).under_60 (omega (arith, h, under d 5 (n - 2 + 2) has (omega (arith, lt)))))
    long d h has (inr ge_3) (inr ge_4) (inr ge_5) (inr ge_6) =
        omega (arith, h, ge_6, (size_below n).most)

size_201 : Low least_size (combination 2 0 1)
size_201 s n by =
    low_by 2 0 1 n (length s) (least_size n) (length_is (combination 2 0 1) s n by)
    (λ h. short h (cases_lt n 1) (cases_lt n 2))
    (λ d h has. long d h has (cases_lt d 3) (cases_lt d 4) (cases_lt d 5) (cases_lt d 6))
  where
    short : n < 3 → (n < 1) ⊎ (1 ≤ n) → (n < 2) ⊎ (2 ≤ n) → least_size n ≤ n / 1 + 1
    short h (inl lt) y = omega (arith, (size_below n).under_1 lt)
    short h (inr ge) (inl lt) = omega (arith, ge, (size_below n).under_2 lt)
    short h (inr ge) (inr two) = omega (arith, two, (size_below n).under_4 (omega (arith, h)))

    long : (d : ℕ) → 3 ≤ n → HasDigits d (n - 3 + 2) → (d < 3) ⊎ (3 ≤ d) → (d < 4) ⊎ (4 ≤ d) → (d < 5) ⊎ (5 ≤ d) → (d < 6) ⊎ (6 ≤ d) → least_size n + 1 ≤ 2 + 2 * d
    long d h has (inl lt) x_4 x_5 x_6 =
        omega (arith, h, digits_more d 1 (n - 3 + 2) has (omega (arith, h)), (size_below n).under_6 (omega (arith, h, under d 2 (n - 3 + 2) has (omega (arith, lt)))))
    long d h has (inr ge_3) (inl lt) x_5 x_6 =
        omega (arith, h, ge_3, digits_more d 1 (n - 3 + 2) has (omega (arith, h)), (size_below n).under_12 (omega (arith, h, under d 3 (n - 3 + 2) has (omega (arith, lt)))))
    long d h has (inr ge_3) (inr ge_4) (inl lt) x_6 =
        omega (arith, h, ge_3, ge_4, digits_more d 1 (n - 3 + 2) has (omega (arith, h)), (size_below n).under_28 (omega (arith, h, under d 4 (n - 3 + 2) has (omega (arith, lt)))))
    long d h has (inr ge_3) (inr ge_4) (inr ge_5) (inl lt) =
        omega (arith, h, ge_3, ge_4, ge_5, digits_more d 1 (n - 3 + 2) has (omega (arith, h)), (size_below n).under_60 (omega (arith, h, under d 5 (n - 3 + 2) has (omega (arith, lt)))))
    long d h has (inr ge_3) (inr ge_4) (inr ge_5) (inr ge_6) =
        omega (arith, h, ge_6, (size_below n).most)

size_001 : Low least_size (order 0)
size_001 s n by =
    low_by 0 0 1 n (length s) (least_size n) (length_is (order 0) s n by)
    (λ h. omega (arith, h, (size_below n).under_1 (omega (arith, h))))
    (λ d h has. long d h has (cases_lt d 3) (cases_lt d 4) (cases_lt d 5) (cases_lt d 6))
  where
    long : (d : ℕ) → 1 ≤ n → HasDigits d (n - 1 + 2) → (d < 3) ⊎ (3 ≤ d) → (d < 4) ⊎ (4 ≤ d) → (d < 5) ⊎ (5 ≤ d) → (d < 6) ⊎ (6 ≤ d) → least_size n + 1 ≤ 0 + 2 * d
    long d h has (inl lt) x_4 x_5 x_6 =
        omega (arith, h, digits_more d 1 (n - 1 + 2) has (omega (arith, h)), (size_below n).under_4 (omega (arith, h, under d 2 (n - 1 + 2) has (omega (arith, lt)))))
    long d h has (inr ge_3) (inl lt) x_5 x_6 =
        omega (arith, h, ge_3, digits_more d 1 (n - 1 + 2) has (omega (arith, h)), (size_below n).under_12 (omega (arith, h, under d 3 (n - 1 + 2) has (omega (arith, lt)))))
    long d h has (inr ge_3) (inr ge_4) (inl lt) x_6 =
        omega (arith, h, ge_3, ge_4, digits_more d 1 (n - 1 + 2) has (omega (arith, h)), (size_below n).under_28 (omega (arith, h, under d 4 (n - 1 + 2) has (omega (arith, lt)))))
    long d h has (inr ge_3) (inr ge_4) (inr ge_5) (inl lt) =
        omega (arith, h, ge_3, ge_4, ge_5, digits_more d 1 (n - 1 + 2) has (omega (arith, h)), (size_below n).under_60 (omega (arith, h, under d 5 (n - 1 + 2) has (omega (arith, lt)))))
    long d h has (inr ge_3) (inr ge_4) (inr ge_5) (inr ge_6) =
        omega (arith, h, ge_6, (size_below n).most)

size_012 : Low least_size (order 1)
size_012 s n by =
    low_by 0 1 2 n (length s) (least_size n) (length_is (order 1) s n by)
    (λ h. omega (arith, h, (size_below n).under_2 (omega (arith, h))))
    (λ d h has. long d h has (cases_lt d 4) (cases_lt d 5) (cases_lt d 6) (cases_lt d 7))
  where
    long : (d : ℕ) → 2 ≤ n → HasDigits d (n - 2 + 4) → (d < 4) ⊎ (4 ≤ d) → (d < 5) ⊎ (5 ≤ d) → (d < 6) ⊎ (6 ≤ d) → (d < 7) ⊎ (7 ≤ d) → least_size n + 2 ≤ 0 + 2 * d
    long d h has (inl lt) x_5 x_6 x_7 =
        omega (arith, h, digits_more d 2 (n - 2 + 4) has (omega (arith, h)), (size_below n).under_6 (omega (arith, h, under d 3 (n - 2 + 4) has (omega (arith, lt)))))
    long d h has (inr ge_4) (inl lt) x_6 x_7 =
        omega (arith, h, ge_4, digits_more d 2 (n - 2 + 4) has (omega (arith, h)), (size_below n).under_14 (omega (arith, h, under d 4 (n - 2 + 4) has (omega (arith, lt)))))
    long d h has (inr ge_4) (inr ge_5) (inl lt) x_7 =
        omega (arith, h, ge_4, ge_5, digits_more d 2 (n - 2 + 4) has (omega (arith, h)), (size_below n).under_30 (omega (arith, h, under d 5 (n - 2 + 4) has (omega (arith, lt)))))
    long d h has (inr ge_4) (inr ge_5) (inr ge_6) (inl lt) =
        omega (arith, h, ge_4, ge_5, ge_6, digits_more d 2 (n - 2 + 4) has (omega (arith, h)), (size_below n).under_62 (omega (arith, h, under d 6 (n - 2 + 4) has (omega (arith, lt)))))
    long d h has (inr ge_4) (inr ge_5) (inr ge_6) (inr ge_7) =
        omega (arith, h, ge_7, (size_below n).most)

size_023 : Low least_size (order 2)
size_023 s n by =
    low_by 0 2 3 n (length s) (least_size n) (length_is (order 2) s n by)
    (λ h. omega (arith, h, (size_below n).under_4 (omega (arith, h))))
    (λ d h has. long d h has (cases_lt d 5) (cases_lt d 6) (cases_lt d 7))
  where
    long : (d : ℕ) → 4 ≤ n → HasDigits d (n - 4 + 8) → (d < 5) ⊎ (5 ≤ d) → (d < 6) ⊎ (6 ≤ d) → (d < 7) ⊎ (7 ≤ d) → least_size n + 3 ≤ 0 + 2 * d
    long d h has (inl lt) x_6 x_7 =
        omega (arith, h, digits_more d 3 (n - 4 + 8) has (omega (arith, h)), (size_below n).under_12 (omega (arith, h, under d 4 (n - 4 + 8) has (omega (arith, lt)))))
    long d h has (inr ge_5) (inl lt) x_7 =
        omega (arith, h, ge_5, digits_more d 3 (n - 4 + 8) has (omega (arith, h)), (size_below n).under_28 (omega (arith, h, under d 5 (n - 4 + 8) has (omega (arith, lt)))))
    long d h has (inr ge_5) (inr ge_6) (inl lt) =
        omega (arith, h, ge_5, ge_6, digits_more d 3 (n - 4 + 8) has (omega (arith, h)), (size_below n).under_60 (omega (arith, h, under d 6 (n - 4 + 8) has (omega (arith, lt)))))
    long d h has (inr ge_5) (inr ge_6) (inr ge_7) =
        omega (arith, h, ge_7, (size_below n).most)

-- and so of a size less one
pub size_is_low : (before : ℕ) (s : List ℕ) (n : ℕ) → Spells (level_parameters before) s n → least_size n ≤ length s
size_is_low before =
    either least_size (nat_lt before 1) (combination 2 0 2) _ size_202
    (either least_size (nat_lt before 2) (combination 1 0 1) _ size_101
    (either least_size (nat_lt before 3) (combination 2 0 1) _ size_201
    (either least_size (nat_lt before 4) (order 0) _ size_001
    (either least_size (nat_lt before 8) (order 1) (order 2) size_012 size_023))))

-- the fewest bits of a change are no more than those by this code, where the number is that of the change or a greater one
abbrev LowChange : Parameters → Type 0
LowChange p = (s : List ℕ) (n c : ℕ) → Spells p s n → 2 * c ≤ n + 1 → least_change c ≤ length s

either_change : (b : Bool) (p q : Parameters) → LowChange p → LowChange q → LowChange (if b then p else q)
either_change true p q h k = h
either_change false p q h k = k

change_001 : LowChange (order 0)
change_001 s n c by far =
    low_by 0 0 1 n (length s) (least_change c) (length_is (order 0) s n by)
    (λ h. omega (arith, h, (change_below c).under_1 (omega (arith, h, far))))
    (λ d h has. long d h has (cases_lt d 3) (cases_lt d 4) (cases_lt d 5) (cases_lt d 6) (cases_lt d 7))
  where
    long : (d : ℕ) → 1 ≤ n → HasDigits d (n - 1 + 2) → (d < 3) ⊎ (3 ≤ d) → (d < 4) ⊎ (4 ≤ d) → (d < 5) ⊎ (5 ≤ d) → (d < 6) ⊎ (6 ≤ d) → (d < 7) ⊎ (7 ≤ d) → least_change c + 1 ≤ 0 + 2 * d
    long d h has (inl lt) x_4 x_5 x_6 x_7 =
        omega (arith, h, digits_more d 1 (n - 1 + 2) has (omega (arith, h)), (change_below c).under_2 (omega (arith, h, far, under d 2 (n - 1 + 2) has (omega (arith, lt)))))
    long d h has (inr ge_3) (inl lt) x_5 x_6 x_7 =
        omega (arith, h, ge_3, digits_more d 1 (n - 1 + 2) has (omega (arith, h)), (change_below c).under_5 (omega (arith, h, far, under d 3 (n - 1 + 2) has (omega (arith, lt)))))
    long d h has (inr ge_3) (inr ge_4) (inl lt) x_6 x_7 =
        omega (arith, h, ge_3, ge_4, digits_more d 1 (n - 1 + 2) has (omega (arith, h)), (change_below c).under_13 (omega (arith, h, far, under d 4 (n - 1 + 2) has (omega (arith, lt)))))
    long d h has (inr ge_3) (inr ge_4) (inr ge_5) (inl lt) x_7 =
        omega (arith, h, ge_3, ge_4, ge_5, digits_more d 1 (n - 1 + 2) has (omega (arith, h)), (change_below c).under_29 (omega (arith, h, far, under d 5 (n - 1 + 2) has (omega (arith, lt)))))
    long d h has (inr ge_3) (inr ge_4) (inr ge_5) (inr ge_6) (inl lt) =
        omega (arith, h, ge_3, ge_4, ge_5, ge_6, digits_more d 1 (n - 1 + 2) has (omega (arith, h)), (change_below c).under_61 (omega (arith, h, far, under d 6 (n - 1 + 2) has (omega (arith, lt)))))
    long d h has (inr ge_3) (inr ge_4) (inr ge_5) (inr ge_6) (inr ge_7) =
        omega (arith, h, ge_7, (change_below c).most)

change_012 : LowChange (order 1)
change_012 s n c by far =
    low_by 0 1 2 n (length s) (least_change c) (length_is (order 1) s n by)
    (λ h. omega (arith, h, (change_below c).under_2 (omega (arith, h, far))))
    (λ d h has. long d h has (cases_lt d 4) (cases_lt d 5) (cases_lt d 6) (cases_lt d 7))
  where
    long : (d : ℕ) → 2 ≤ n → HasDigits d (n - 2 + 4) → (d < 4) ⊎ (4 ≤ d) → (d < 5) ⊎ (5 ≤ d) → (d < 6) ⊎ (6 ≤ d) → (d < 7) ⊎ (7 ≤ d) → least_change c + 2 ≤ 0 + 2 * d
    long d h has (inl lt) x_5 x_6 x_7 =
        omega (arith, h, digits_more d 2 (n - 2 + 4) has (omega (arith, h)), (change_below c).under_5 (omega (arith, h, far, under d 3 (n - 2 + 4) has (omega (arith, lt)))))
    long d h has (inr ge_4) (inl lt) x_6 x_7 =
        omega (arith, h, ge_4, digits_more d 2 (n - 2 + 4) has (omega (arith, h)), (change_below c).under_13 (omega (arith, h, far, under d 4 (n - 2 + 4) has (omega (arith, lt)))))
    long d h has (inr ge_4) (inr ge_5) (inl lt) x_7 =
        omega (arith, h, ge_4, ge_5, digits_more d 2 (n - 2 + 4) has (omega (arith, h)), (change_below c).under_29 (omega (arith, h, far, under d 5 (n - 2 + 4) has (omega (arith, lt)))))
    long d h has (inr ge_4) (inr ge_5) (inr ge_6) (inl lt) =
        omega (arith, h, ge_4, ge_5, ge_6, digits_more d 2 (n - 2 + 4) has (omega (arith, h)), (change_below c).under_61 (omega (arith, h, far, under d 6 (n - 2 + 4) has (omega (arith, lt)))))
    long d h has (inr ge_4) (inr ge_5) (inr ge_6) (inr ge_7) =
        omega (arith, h, ge_7, (change_below c).most)

change_123 : LowChange (combination 1 2 3)
change_123 s n c by far =
    low_by 1 2 3 n (length s) (least_change c) (length_is (combination 1 2 3) s n by)
    (λ h. short h (cases_lt n 4))
    (λ d h has. long d h has (cases_lt d 5) (cases_lt d 6) (cases_lt d 7))
  where
    short : n < 8 → (n < 4) ⊎ (4 ≤ n) → least_change c ≤ n / 4 + 3
    short h (inl lt) = omega (arith, (change_below c).under_3 (omega (arith, lt, far)))
    short h (inr ge) = omega (arith, ge, (change_below c).under_5 (omega (arith, h, far)))

    long : (d : ℕ) → 8 ≤ n → HasDigits d (n - 8 + 8) → (d < 5) ⊎ (5 ≤ d) → (d < 6) ⊎ (6 ≤ d) → (d < 7) ⊎ (7 ≤ d) → least_change c + 3 ≤ 1 + 2 * d
    long d h has (inl lt) x_6 x_7 =
        omega (arith, h, digits_more d 3 (n - 8 + 8) has (omega (arith, h)), (change_below c).under_13 (omega (arith, h, far, under d 4 (n - 8 + 8) has (omega (arith, lt)))))
    long d h has (inr ge_5) (inl lt) x_7 =
        omega (arith, h, ge_5, digits_more d 3 (n - 8 + 8) has (omega (arith, h)), (change_below c).under_29 (omega (arith, h, far, under d 5 (n - 8 + 8) has (omega (arith, lt)))))
    long d h has (inr ge_5) (inr ge_6) (inl lt) =
        omega (arith, h, ge_5, ge_6, digits_more d 3 (n - 8 + 8) has (omega (arith, h)), (change_below c).under_61 (omega (arith, h, far, under d 6 (n - 8 + 8) has (omega (arith, lt)))))
    long d h has (inr ge_5) (inr ge_6) (inr ge_7) =
        omega (arith, h, ge_7, (change_below c).most)

change_034 : LowChange (order 3)
change_034 s n c by far =
    low_by 0 3 4 n (length s) (least_change c) (length_is (order 3) s n by)
    (λ h. omega (arith, h, (change_below c).under_5 (omega (arith, h, far))))
    (λ d h has. long d h has (cases_lt d 6) (cases_lt d 7) (cases_lt d 8))
  where
    long : (d : ℕ) → 8 ≤ n → HasDigits d (n - 8 + 16) → (d < 6) ⊎ (6 ≤ d) → (d < 7) ⊎ (7 ≤ d) → (d < 8) ⊎ (8 ≤ d) → least_change c + 4 ≤ 0 + 2 * d
    long d h has (inl lt) x_7 x_8 =
        omega (arith, h, digits_more d 4 (n - 8 + 16) has (omega (arith, h)), (change_below c).under_13 (omega (arith, h, far, under d 5 (n - 8 + 16) has (omega (arith, lt)))))
    long d h has (inr ge_6) (inl lt) x_8 =
        omega (arith, h, ge_6, digits_more d 4 (n - 8 + 16) has (omega (arith, h)), (change_below c).under_29 (omega (arith, h, far, under d 6 (n - 8 + 16) has (omega (arith, lt)))))
    long d h has (inr ge_6) (inr ge_7) (inl lt) =
        omega (arith, h, ge_6, ge_7, digits_more d 4 (n - 8 + 16) has (omega (arith, h)), (change_below c).under_61 (omega (arith, h, far, under d 7 (n - 8 + 16) has (omega (arith, lt)))))
    long d h has (inr ge_6) (inr ge_7) (inr ge_8) =
        omega (arith, h, ge_8, (change_below c).most)

-- and so of a change of DC levels
pub change_is_low : (before : ℕ) (s : List ℕ) (n c : ℕ) → Spells (dc_parameters before) s n → 2 * c ≤ n + 1 → least_change c ≤ length s
change_is_low before =
    either_change (nat_lt before 1) (order 0) _ change_001
    (either_change (nat_lt before 2) (order 1) _ change_012
    (either_change (nat_lt before 3) (combination 1 2 3) (order 3) change_123 change_034))

-- the first DC level has 6 bits or more
pub first_is_low : (s : List ℕ) (n : ℕ) → Spells (order 5) s n → 6 ≤ length s
first_is_low s n by =
    low_by 0 5 6 n (length s) 6 (length_is (order 5) s n by) (λ h. omega arith) (λ d h has. omega (arith, h, digits_more d 6 (n - 32 + 64) has (omega (arith, h))))
