-- Laws of the fewest bits of runs, sizes and changes: proved here, for proofs to cite.
use Rattle.std.proofs.Common.{◌≡◌, ℕ, ◌+◌, ◌<◌, ◌≤◌, arith, refl, ◌⊎◌, inl, inr}
use Rattle.std.proofs.lemmas.Bool.{cases_lt}
use Rattle.slice_parts.specs.Bound.{reaches, saved, least_run, least_size, least_change}

-- a limit is reached or not
pub reached : (limit n : ℕ) → limit ≤ n → reaches limit n ≡ 1
reached limit n h = grind (arith, h)

pub short_of : (limit n : ℕ) → n < limit → reaches limit n ≡ 0
short_of limit n h = grind (arith, h)

once : (limit n : ℕ) → reaches limit n ≤ 1
once limit n = cases (cases_lt n limit)
  where
    cases : (n < limit) ⊎ (limit ≤ n) → reaches limit n ≤ 1
    cases (inl lt) = omega (arith, short_of limit n lt)
    cases (inr le) = omega (arith, reached limit n le)

-- a limit that is reached is reached by a greater number
grows : (limit m n : ℕ) → m ≤ n → reaches limit m ≤ reaches limit n
grows limit m n h = cases (cases_lt m limit)
  where
    cases : (m < limit) ⊎ (limit ≤ m) → reaches limit m ≤ reaches limit n
    cases (inl lt) = omega (arith, short_of limit m lt)
    cases (inr le) = omega (arith, reached limit m le, reached limit n (omega (arith, le, h)))

-- each size has a bit or more
pub size_some : (n : ℕ) → 1 ≤ least_size n
unfolding least_size
size_some n = omega arith

-- greater sizes and changes have no fewer bits
pub size_grows : (m n : ℕ) → m ≤ n → least_size m ≤ least_size n
unfolding least_size
size_grows m n h = omega (arith, grows 1 m n h, grows 2 m n h, grows 4 m n h, grows 6 m n h, grows 12 m n h, grows 14 m n h, grows 28 m n h, grows 30 m n h, grows 60 m n h, grows 62 m n h)

pub change_grows : (m n : ℕ) → m ≤ n → least_change m ≤ least_change n
unfolding least_change
change_grows m n h = omega (arith, grows 1 m n h, grows 2 m n h, grows 3 m n h, grows 5 m n h, grows 13 m n h, grows 29 m n h, grows 61 m n h)

-- no limit from here on is reached
few : (n h : ℕ) → n < h → (limit : ℕ) → h ≤ limit → reaches limit n ≡ 0
few n h lt limit le = short_of limit n (omega (arith, lt, le))

-- what is counted of a run, from above
pub run_most : (n : ℕ) → least_run n ≤ 7
unfolding least_run
run_most n = omega (arith, once 1 n, once 2 n, once 3 n, once 6 n, once 8 n, once 16 n)

run_short : (n : ℕ) → n < 6 → least_run n ≤ 4
unfolding least_run
run_short n h = omega (arith, once 1 n, once 2 n, once 3 n, short_of 6 n h, few n 6 h 8 (omega arith), few n 6 h 16 (omega arith))

pub run_some : (r : ℕ) → 1 ≤ least_run r
unfolding least_run
run_some r = omega arith

run_long : (r : ℕ) → 3 ≤ r → 4 ≤ least_run r
unfolding least_run
run_long r h = omega (arith, reached 1 r (omega (arith, h)), reached 2 r (omega (arith, h)), reached 3 r h)

-- two runs with a level between them count at least what the one run does, less two
pub joins : (a b : ℕ) → least_run (a + b + 1) ≤ least_run a + 2 + least_run b
joins a b = cases (cases_lt (a + b + 1) 6) (cases_lt a 3)
  where
    cases : (a + b + 1 < 6) ⊎ (6 ≤ a + b + 1) → (a < 3) ⊎ (3 ≤ a) → least_run (a + b + 1) ≤ least_run a + 2 + least_run b
    cases (inl lt) which = omega (arith, run_short (a + b + 1) lt, run_some a, run_some b)
    cases (inr le) (inl lt) = omega (arith, run_most (a + b + 1), run_some a, run_long b (omega (arith, le, lt)))
    cases (inr le) (inr ge) = omega (arith, run_most (a + b + 1), run_long a ge, run_some b)

-- the code behind a run of 4 saves a bit at most, and none more than two
pub saved_four : saved 4 ≡ 1
unfolding saved
saved_four = refl

pub saved_some : (run : ℕ) → 4 ≤ run → 1 ≤ saved run
unfolding saved
saved_some run h = omega (arith, reached 4 run h)

pub saved_two : (run : ℕ) → 15 ≤ run → 2 ≤ saved run
unfolding saved
saved_two run h = omega (arith, reached 4 run (omega (arith, h)), reached 15 run h)

pub saved_most : (run : ℕ) → saved run ≤ 2
unfolding saved
saved_most run = omega (arith, once 4 run, once 15 run)

-- the fewest bits of a run by a code that saves none, from above
pub record IsRunBelow (n bits : ℕ) : Type 0 where
  pub most : bits ≤ 9
  pub under_16 : n < 16 → bits ≤ 8
  pub under_15 : n < 15 → bits ≤ 7
  pub under_8 : n < 8 → bits ≤ 6
  pub under_6 : n < 6 → bits ≤ 5
  pub under_4 : n < 4 → bits ≤ 4
  pub under_3 : n < 3 → bits ≤ 3
  pub under_2 : n < 2 → bits ≤ 2
  pub under_1 : n < 1 → bits ≤ 1

pub run_below : (n : ℕ) → IsRunBelow n (least_run n + saved n)
unfolding least_run saved
run_below n =
    let a = once 1 n in
    let b = once 2 n in
    let c = once 3 n in
    let d = once 4 n in
    let e = once 6 n in
    let f = once 8 n in
    let g = once 15 n in
    let i = once 16 n in
    record {
      most = omega (arith, a, b, c, d, e, f, g, i);
      under_16 = λ h. omega (arith, a, b, c, d, e, f, g, short_of 16 n h);
      under_15 = λ h. omega (arith, a, b, c, d, e, f, short_of 15 n h, few n 15 h 16 (omega arith));
      under_8 = λ h. omega (arith, a, b, c, d, e, short_of 8 n h, few n 8 h 15 (omega arith), few n 8 h 16 (omega arith));
      under_6 = λ h. omega (arith, a, b, c, d, short_of 6 n h, few n 6 h 8 (omega arith), few n 6 h 15 (omega arith), few n 6 h 16 (omega arith));
      under_4 = λ h. omega (arith, a, b, c, short_of 4 n h, few n 4 h 6 (omega arith), few n 4 h 8 (omega arith), few n 4 h 15 (omega arith), few n 4 h 16 (omega arith));
      under_3 = λ h. omega (arith, a, b, short_of 3 n h, few n 3 h 4 (omega arith), few n 3 h 6 (omega arith), few n 3 h 8 (omega arith), few n 3 h 15 (omega arith), few n 3 h 16 (omega arith));
      under_2 = λ h. omega (arith, a, short_of 2 n h, few n 2 h 3 (omega arith), few n 2 h 4 (omega arith), few n 2 h 6 (omega arith), few n 2 h 8 (omega arith), few n 2 h 15 (omega arith), few n 2 h 16 (omega arith));
      under_1 = λ h. omega (arith, short_of 1 n h, few n 1 h 2 (omega arith), few n 1 h 3 (omega arith), few n 1 h 4 (omega arith), few n 1 h 6 (omega arith), few n 1 h 8 (omega arith), few n 1 h 15 (omega arith), few n 1 h 16 (omega arith));
    }

-- the fewest bits of a size less one, from above
pub record IsSizeBelow (n bits : ℕ) : Type 0 where
  pub most : bits ≤ 11
  pub under_62 : n < 62 → bits ≤ 10
  pub under_60 : n < 60 → bits ≤ 9
  pub under_30 : n < 30 → bits ≤ 8
  pub under_28 : n < 28 → bits ≤ 7
  pub under_14 : n < 14 → bits ≤ 6
  pub under_12 : n < 12 → bits ≤ 5
  pub under_6 : n < 6 → bits ≤ 4
  pub under_4 : n < 4 → bits ≤ 3
  pub under_2 : n < 2 → bits ≤ 2
  pub under_1 : n < 1 → bits ≤ 1

pub size_below : (n : ℕ) → IsSizeBelow n (least_size n)
unfolding least_size
size_below n =
    let a = once 1 n in
    let b = once 2 n in
    let c = once 4 n in
    let d = once 6 n in
    let e = once 12 n in
    let f = once 14 n in
    let g = once 28 n in
    let i = once 30 n in
    let j = once 60 n in
    let k = once 62 n in
    record {
      most = omega (arith, a, b, c, d, e, f, g, i, j, k);
      under_62 = λ h. omega (arith, a, b, c, d, e, f, g, i, j, short_of 62 n h);
      under_60 = λ h. omega (arith, a, b, c, d, e, f, g, i, short_of 60 n h, few n 60 h 62 (omega arith));
      under_30 = λ h. omega (arith, a, b, c, d, e, f, g, short_of 30 n h, few n 30 h 60 (omega arith), few n 30 h 62 (omega arith));
      under_28 = λ h. omega (arith, a, b, c, d, e, f, short_of 28 n h, few n 28 h 30 (omega arith), few n 28 h 60 (omega arith), few n 28 h 62 (omega arith));
      under_14 = λ h. omega (arith, a, b, c, d, e, short_of 14 n h, few n 14 h 28 (omega arith), few n 14 h 30 (omega arith), few n 14 h 60 (omega arith), few n 14 h 62 (omega arith));
      under_12 = λ h. omega (arith, a, b, c, d, short_of 12 n h, few n 12 h 14 (omega arith), few n 12 h 28 (omega arith), few n 12 h 30 (omega arith), few n 12 h 60 (omega arith), few n 12 h 62 (omega arith));
      under_6 = λ h. omega (arith, a, b, c, short_of 6 n h, few n 6 h 12 (omega arith), few n 6 h 14 (omega arith), few n 6 h 28 (omega arith), few n 6 h 30 (omega arith), few n 6 h 60 (omega arith), few n 6 h 62 (omega arith));
      under_4 = λ h. omega (arith, a, b, short_of 4 n h, few n 4 h 6 (omega arith), few n 4 h 12 (omega arith), few n 4 h 14 (omega arith), few n 4 h 28 (omega arith), few n 4 h 30 (omega arith), few n 4 h 60 (omega arith), few n 4 h 62 (omega arith));
      under_2 = λ h. omega (arith, a, short_of 2 n h, few n 2 h 4 (omega arith), few n 2 h 6 (omega arith), few n 2 h 12 (omega arith), few n 2 h 14 (omega arith), few n 2 h 28 (omega arith), few n 2 h 30 (omega arith), few n 2 h 60 (omega arith), few n 2 h 62 (omega arith));
      under_1 = λ h. omega (arith, short_of 1 n h, few n 1 h 2 (omega arith), few n 1 h 4 (omega arith), few n 1 h 6 (omega arith), few n 1 h 12 (omega arith), few n 1 h 14 (omega arith), few n 1 h 28 (omega arith), few n 1 h 30 (omega arith), few n 1 h 60 (omega arith), few n 1 h 62 (omega arith));
    }

-- the fewest bits of a change, from above
pub record IsChangeBelow (n bits : ℕ) : Type 0 where
  pub most : bits ≤ 12
  pub under_61 : n < 61 → bits ≤ 10
  pub under_29 : n < 29 → bits ≤ 8
  pub under_13 : n < 13 → bits ≤ 6
  pub under_5 : n < 5 → bits ≤ 4
  pub under_3 : n < 3 → bits ≤ 3
  pub under_2 : n < 2 → bits ≤ 2
  pub under_1 : n < 1 → bits ≤ 1

pub change_below : (n : ℕ) → IsChangeBelow n (least_change n)
unfolding least_change
change_below n =
    let a = once 1 n in
    let b = once 2 n in
    let c = once 3 n in
    let d = once 5 n in
    let e = once 13 n in
    let f = once 29 n in
    let g = once 61 n in
    record {
      most = omega (arith, a, b, c, d, e, f, g);
      under_61 = λ h. omega (arith, a, b, c, d, e, f, short_of 61 n h);
      under_29 = λ h. omega (arith, a, b, c, d, e, short_of 29 n h, few n 29 h 61 (omega arith));
      under_13 = λ h. omega (arith, a, b, c, d, short_of 13 n h, few n 13 h 29 (omega arith), few n 13 h 61 (omega arith));
      under_5 = λ h. omega (arith, a, b, c, short_of 5 n h, few n 5 h 13 (omega arith), few n 5 h 29 (omega arith), few n 5 h 61 (omega arith));
      under_3 = λ h. omega (arith, a, b, short_of 3 n h, few n 3 h 5 (omega arith), few n 3 h 13 (omega arith), few n 3 h 29 (omega arith), few n 3 h 61 (omega arith));
      under_2 = λ h. omega (arith, a, short_of 2 n h, few n 2 h 3 (omega arith), few n 2 h 5 (omega arith), few n 2 h 13 (omega arith), few n 2 h 29 (omega arith), few n 2 h 61 (omega arith));
      under_1 = λ h. omega (arith, short_of 1 n h, few n 1 h 2 (omega arith), few n 1 h 3 (omega arith), few n 1 h 5 (omega arith), few n 1 h 13 (omega arith), few n 1 h 29 (omega arith), few n 1 h 61 (omega arith));
    }
