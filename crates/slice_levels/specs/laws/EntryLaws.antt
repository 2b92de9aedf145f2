-- Laws of the entries of an interleaved list and of the places of lanes: proved here, for proofs to cite.
use Rattle.std.proofs.Common.{◌≡◌, ℕ, zero, suc, ◌+◌, ◌-◌, ◌*◌, ◌/◌, ◌%◌, ◌<◌, ◌≤◌, ◌⊎◌, sym, subst, inl, inr, ⊎_elim, arith, List, length, slice_index}
use Rattle.std.proofs.Math.Nat.{mul-le-mul_right}
use Rattle.std.proofs.lemmas.Bool.{cases_lt}
use Rattle.std.proofs.lemmas.List.{get_or_past}
use Rattle.std.proofs.lemmas.Nat.{mul-add-lt, div_below, mod_below, div-add-mod'}
use Rattle.slice_levels.specs.Interleaved.{entry_of}

-- every entry is one of the list's
pub entry_within : (count b k : ℕ) → b < count → k < 64 → entry_of count k b < 64 * count
entry_within count b k b_lt k_lt = omega (arith, mul-add-lt k count b 64 k_lt b_lt)

-- the entries of a scan position stand before those of the next ones
pub entry_before : (count j k b first : ℕ) → j < k → b < count → entry_of count j b < k * count + first
entry_before count j k b first lt within =
    let next : (j + 1) * count ≤ k * count = mul-le-mul_right count (omega arith) in
    omega (arith, next)

pub entry_after : (count j k b first filled : ℕ) → k < j → filled ≤ count - first → first < count → k * count + first + filled ≤ entry_of count j b
entry_after count j k b first filled lt few within =
    let next : (k + 1) * count ≤ j * count = mul-le-mul_right count (omega arith) in
    omega (arith, next)

-- blocks before the first of a group have no entry among those that are written
pub entry_apart : (count j k b first filled : ℕ) → b < first → filled ≤ count - first → first < count
    → (entry_of count j b < k * count + first) ⊎ (k * count + first + filled ≤ entry_of count j b)
entry_apart count j k b first filled b_lt few within = ⊎_elim
    (λ (lt : j < k). inl (entry_before count j k b first lt (omega arith)))
    (λ (ge : k ≤ j). ⊎_elim
    (λ (lt : k < j). inr (entry_after count j k b first filled lt few within))
    (λ (le : j ≤ k). let e : j ≡ k = omega arith in inl (subst (λ (n : ℕ). n * count + b < k * count + first) (sym e) (omega arith)))
    (cases_lt k j))
    (cases_lt j k)

pub add_assoc_back : (a b c : ℕ) → a + (b + c) ≡ a + b + c
add_assoc_back a b c = omega arith

-- what holds at each entry of blocks and scan positions holds of each entry
pub at_each_entry : (P : ℕ → Type 0) (count n : ℕ) → ((b k : ℕ) → b < count → k < 64 → P (entry_of count k b)) → n < 64 * count → P n
at_each_entry P count n each lt =
    let some : 0 < count = ⊎_elim (λ (h : 0 < count). h) (λ (h : count ≤ 0). absurd (omega arith)) (cases_lt 0 count) in
    subst P (div-add-mod' n count) (each (n % count) (n / count) (mod_below n count some) (div_below n count 64 some lt))

-- numbers that are small in each lane at each place are small
pub small_lanes : (numbers : List ℕ) (bound : ℕ) → 0 < bound → length numbers ≡ 512
    → ((p j : ℕ) → p < 64 → j < 8 → slice_index numbers (8 * p + j) < bound) → (n : ℕ) → slice_index numbers n < bound
small_lanes numbers bound some long each n = ⊎_elim
    (λ (h : n < 512). let e : 8 * (n / 8) + n % 8 ≡ n = omega arith in
    subst (λ (i : ℕ). slice_index numbers i < bound) e (each (n / 8) (n % 8) (omega arith) (omega arith)))
    (λ (h : 512 ≤ n). subst (λ (i : ℕ). i < bound) (sym (get_or_past numbers n 0 (omega arith))) some)
    (cases_lt n 512)

-- what holds at each of eight places holds at every place below eight
pub below_eight : (P : ℕ → Type 0) → P 0 → P 1 → P 2 → P 3 → P 4 → P 5 → P 6 → P 7 → (k : ℕ) → k < 8 → P k
below_eight P a b c d e f g h zero lt = a
below_eight P a b c d e f g h (suc zero) lt = b
below_eight P a b c d e f g h (suc (suc zero)) lt = c
below_eight P a b c d e f g h (suc (suc (suc zero))) lt = d
below_eight P a b c d e f g h (suc (suc (suc (suc zero)))) lt = e
below_eight P a b c d e f g h (suc (suc (suc (suc (suc zero))))) lt = f
below_eight P a b c d e f g h (suc (suc (suc (suc (suc (suc zero)))))) lt = g
below_eight P a b c d e f g h (suc (suc (suc (suc (suc (suc (suc zero))))))) lt = h
below_eight P a b c d e f g h (suc (suc (suc (suc (suc (suc (suc (suc k)))))))) lt = absurd (omega arith)
