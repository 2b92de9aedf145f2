-- How many body partitions some units have.
use Rattle.std.proofs.Common.{◌≡◌, ℕ, ◌+◌, ◌-◌, ◌*◌, ◌/◌, ◌%◌, ◌<◌, ◌≤◌, min, zero, suc, refl, ap, ◌∙◌, inl, inr, arith}
use Rattle.std.proofs.lemmas.Nat.{div-add-mod', div-mul-add, mod-mul-add, mod_below}
use Rattle.std.proofs.lemmas.Bool.{cases_lt, cases_eq}
use Rattle.std.proofs.lemmas.Grind.{div_ceil_times}
use Rattle.std.specs.Int.{div_ceil}
use Rattle.mxf_take_file.specs.Extents.{body_count}

-- the number behind one that isn't the last of its row
next_within : (part n : ℕ) → n % part + 1 < part → ((n + 1) / part ≡ n / part) × ((n + 1) % part ≡ n % part + 1)
next_within part n h =
    let e : n + 1 ≡ n / part * part + (n % part + 1) = omega (arith, div-add-mod' n part) in
    (ap (λ (k : ℕ). k / part) e ∙ div-mul-add (n / part) part (n % part + 1) h, ap (λ (k : ℕ). k % part) e ∙ mod-mul-add (n / part) part (n % part + 1) h)

-- the number behind the last of its row
next_row : (part n : ℕ) → 0 < part → n % part + 1 ≡ part → ((n + 1) / part ≡ n / part + 1) × ((n + 1) % part ≡ 0)
next_row part n some h =
    let e : n + 1 ≡ (n / part + 1) * part + 0 = omega (arith, div-add-mod' n part) in
    (ap (λ (k : ℕ). k / part) e ∙ div-mul-add (n / part + 1) part 0 some, ap (λ (k : ℕ). k % part) e ∙ mod-mul-add (n / part + 1) part 0 some)

-- no units have no body partition
pub count_none : (part : ℕ) → 0 < part → body_count part 0 ≡ 0
unfolding body_count
count_none part some =
    let zero_is : 0 ≡ 0 * part + 0 = omega arith in
    let quotient : 0 / part ≡ 0 = ap (λ (k : ℕ). k / part) zero_is ∙ div-mul-add 0 part 0 some in
    let rest : 0 % part ≡ 0 = ap (λ (k : ℕ). k % part) zero_is ∙ mod-mul-add 0 part 0 some in
    rw (quotient, rest) refl

-- a unit whose number is a multiple begins another one
pub count_begins : (part n : ℕ) → 0 < part → n % part ≡ 0 → body_count part (n + 1) ≡ body_count part n + 1
unfolding body_count
count_begins part n some h = elim (cases_lt (n % part + 1) part) [
  | inl within ↦ let p = next_within part n within in rw (p.0, p.1, h) (omega arith)
  | inr last ↦ let p = next_row part n some (omega (arith, mod_below n part some)) in rw (p.0, p.1, h) (omega arith)
]

-- any other unit stands in the one before
pub count_stays : (part n : ℕ) → 0 < part → (n % part ≡ 0 → ⊥) → body_count part (n + 1) ≡ body_count part n
unfolding body_count
count_stays part n some h = elim (cases_lt (n % part + 1) part) [
  | inl within ↦ let p = next_within part n within in rw (p.0, p.1) (omega arith)
  | inr last ↦ let p = next_row part n some (omega (arith, mod_below n part some)) in rw (p.0, p.1) (omega arith)
]

-- a multiple is so many whole partitions
pub count_times : (part n : ℕ) → n % part ≡ 0 → body_count part n * part ≡ n
unfolding body_count
count_times part n h =
    let e : n / part + min 1 (n % part) ≡ n / part = rw h (omega arith) in
    ap (λ (k : ℕ). k * part) e ∙ omega (arith, div-add-mod' n part)

-- there is one where there are units
pub count_some : (part n : ℕ) → 0 < part → 0 < n → 0 < body_count part n
unfolding body_count
count_some part n some h = elim (cases_eq (n % part) 0) [
  | inl even ↦ elim (cases_eq (n / part) 0) [
    | inl none ↦ let e : n / part * part ≡ 0 * part = ap (λ (k : ℕ). k * part) none in absurd (omega (arith, div-add-mod' n part))
    | inr more ↦ omega arith
  ]
  | inr uneven ↦ omega arith
]

-- one more unit has at most one more
count_more : (part n : ℕ) → 0 < part → body_count part (n + 1) ≤ body_count part n + 1
count_more part n some = elim (cases_eq (n % part) 0) [
  | inl begins ↦ let e = count_begins part n some begins in omega arith
  | inr stays ↦ let e = count_stays part n some stays in omega arith
]

-- no more of them than units
pub count_few : (part n : ℕ) → 0 < part → body_count part n ≤ n
count_few part zero some = let e = count_none part some in omega arith
count_few part (suc n) some =
    let next : body_count part (suc n) ≡ body_count part (n + 1) = ap (body_count part) (omega arith) in
    omega (arith, count_few part n some, count_more part n some)

-- no fewer for more units
pub count_grows : (part m k : ℕ) → 0 < part → body_count part m ≤ body_count part (m + k)
count_grows part m zero some = let e : body_count part (m + 0) ≡ body_count part m = ap (body_count part) (omega arith) in omega arith
count_grows part m (suc k) some =
    let e : body_count part (m + suc k) ≡ body_count part (m + k + 1) = ap (body_count part) (omega arith) in
    elim (cases_eq ((m + k) % part) 0) [
      | inl begins ↦ let more = count_begins part (m + k) some begins in omega (arith, count_grows part m k some)
      | inr stays ↦ let same = count_stays part (m + k) some stays in omega (arith, count_grows part m k some)
    ]

-- the last body partition has no more than part units
pub last_few : (part n : ℕ) → 0 < part → n - (body_count part n - 1) * part ≤ part
unfolding body_count
last_few part n some =
    let covers : n ≤ (n / part + min 1 (n % part)) * part = (div_ceil_times n part some).0 in
    elim (cases_eq (n / part + min 1 (n % part)) 0) [
      | inl none ↦ let e : (n / part + min 1 (n % part)) * part ≡ 0 * part = ap (λ (k : ℕ). k * part) none in omega arith
      | inr more ↦
          let c : n / part + min 1 (n % part) ≡ (n / part + min 1 (n % part) - 1) + 1 = omega arith in
          let times : (n / part + min 1 (n % part)) * part ≡ (n / part + min 1 (n % part) - 1 + 1) * part = ap (λ (k : ℕ). k * part) c in
          omega arith
    ]

-- the last body partition begins at a unit that there is, or at 0
pub last_within : (part n : ℕ) → 0 < part → (body_count part n - 1) * part ≤ n
unfolding body_count
last_within part n some =
    let below : (n / part + min 1 (n % part)) * part < n + part = (div_ceil_times n part some).1 in
    elim (cases_eq (n / part + min 1 (n % part)) 0) [
      | inl none ↦ let e : (n / part + min 1 (n % part) - 1) * part ≡ (0 - 1) * part = ap (λ (k : ℕ). (k - 1) * part) none in omega arith
      | inr more ↦
          let c : n / part + min 1 (n % part) ≡ (n / part + min 1 (n % part) - 1) + 1 = omega arith in
          let times : (n / part + min 1 (n % part)) * part ≡ (n / part + min 1 (n % part) - 1 + 1) * part = ap (λ (k : ℕ). k * part) c in
          omega arith
    ]

-- where there are no units, it begins at 0
pub last_of_none : (part n : ℕ) → 0 < part → n ≡ 0 → 0 ≡ (body_count part n - 1) * part
last_of_none part n some none = let h = last_within part n some in omega arith

-- the same of the quotient
pub quotient_few : (part n : ℕ) → 0 < part → div_ceil n part ≤ n
unfolding body_count
quotient_few part n some = count_few part n some
