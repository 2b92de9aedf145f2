-- Laws of the bound of a spelling: it is no more than the bits, and it falls with the levels: proved here, for proofs to cite.
use Rattle.std.proofs.Common.{◌≡◌, ◌≢◌, ℕ, zero, suc, ℤ, pos, negsuc, ◌-ℤ◌, ◌+◌, ◌-◌, ◌*◌, ◌≤◌, ◌<◌, List, [], ◌∷◌, ◌++◌, length, take, drop, map, refl, ap, subst, arith, slice_index}
use Rattle.std.specs.Int.RustNames.{unsigned_abs}
use Rattle.std.proofs.lemmas.Int.{ints}
use Rattle.std.proofs.lemmas.List.{length-append}
use Rattle.prores_codes.specs.Folded.{folded}
use Rattle.slice_parts.specs.Dc.{turned, IsDc}
use Rattle.slice_parts.specs.Dc.DcState.{First, Behind}
use Rattle.slice_parts.specs.Pairs.{PairState, PairSpells, ArePairsOf, pair_state, pair_of, first_pair, sign_bit}
use Rattle.slice_parts.specs.Component.{IsSpelled, level_at}
use Rattle.slice_parts.specs.Bound.{saved, least_run, least_size, ac_bound, dc_bound, AreChanges, AreNoGreater}
use Rattle.slice_parts.specs.laws.PairSteps.{pairs_zero, pairs_level}
use Rattle.slice_parts.specs.laws.LeastBits.{size_some, size_grows, change_grows, joins, saved_four, run_most, run_some}
use Rattle.slice_parts.specs.laws.LeastByCode.{run_is_low, size_is_low, change_is_low, first_is_low}

pair_low : (s : PairState) (before n : ℕ) (x : ℤ) (bits : List ℕ) → unsigned_abs x ≡ suc n → PairSpells s bits (pair_of before x)
    → 1 + least_size n + least_run before + saved before ≤ length bits + saved s.run
pair_low s before n x bits size is =
    let less : unsigned_abs x - 1 ≡ n = omega (arith, size) in
    let low : least_size n ≤ length is.size = subst (λ (k : ℕ). least_size k ≤ length is.size) less (size_is_low s.size_less_one is.size (unsigned_abs x - 1) is.size_spelled) in
    omega (arith, low, run_is_low s.run is.run before is.run_spelled, ap length is.joined, length-append is.run (is.size ++ sign_bit x ∷ []), length-append is.size (sign_bit x ∷ []))

-- pairs have no fewer bits than the bound, but for those that the first run's code may save
pub pairs_low : (levels : List ℤ) (s : PairState) (before : ℕ) (bits : List ℕ) → ArePairsOf s before levels bits
    → ac_bound before (map unsigned_abs levels) ≤ length bits + saved s.run
pairs_low [] s before bits is = omega arith
pairs_low (pos zero ∷ levels) s before bits is = pairs_low levels s (before + 1) bits (pairs_zero s before 0 (pos zero ∷ levels) bits (omega arith) refl is)
pairs_low (pos (suc n) ∷ levels) s before bits is =
    let some : pos (suc n) ≢ pos 0 = λ e. absurd (omega (arith, ap unsigned_abs e)) in
    let p = pairs_level s before 0 (pos (suc n) ∷ levels) bits (omega arith) some is in
    omega (arith, ap length p.joined, length-append p.one p.rest, pair_low s before n (pos (suc n)) p.one refl p.head, pairs_low levels (pair_state before (unsigned_abs (pos (suc n)) - 1)) 0 p.rest p.tail)
pairs_low (negsuc n ∷ levels) s before bits is =
    let some : negsuc n ≢ pos 0 = λ e. absurd (omega (arith, ap unsigned_abs e)) in
    let p = pairs_level s before 0 (negsuc n ∷ levels) bits (omega arith) some is in
    omega (arith, ap length p.joined, length-append p.one p.rest, pair_low s before n (negsuc n) p.one refl p.head, pairs_low levels (pair_state before (unsigned_abs (negsuc n) - 1)) 0 p.rest p.tail)

folded_far : (z : ℤ) → 2 * unsigned_abs z ≤ folded z + 1
folded_far (pos n) = omega arith
folded_far (negsuc n) = omega arith

turned_far : (d z : ℤ) → unsigned_abs (turned d z) ≡ unsigned_abs z
turned_far (pos n) z = refl
turned_far (negsuc n) z = omega (arith, ints)

-- levels behind a level, each this far from the one before or farther
record Follow (before : ℤ) (levels : List ℤ) (changes : List ℕ) : Type 0 where
  long : length levels ≡ length changes
  each : (k : ℕ) → k < length changes → slice_index changes k ≤ unsigned_abs (level_at levels k -ℤ level_at (before ∷ levels) k)

dc_low : (levels : List ℤ) (before difference : ℤ) (changes : List ℕ) (bits : List ℕ) → Follow before levels changes → IsDc (Behind before difference) levels bits → dc_bound changes ≤ length bits
dc_low [] before difference [] bits far is = omega arith
dc_low [] before difference (c ∷ changes) bits far is = absurd (omega (arith, far.long))
dc_low (x ∷ levels) before difference [] bits far is = absurd (omega (arith, far.long))
dc_low (x ∷ levels) before difference (c ∷ changes) bits far is =
    let step : ℤ = turned difference (x -ℤ before) in
    let first : c ≤ unsigned_abs (x -ℤ before) = far.each 0 (omega arith) in
    let low = change_is_low (unsigned_abs difference) is.one (folded step) c is.head (omega (arith, first, folded_far step, turned_far difference (x -ℤ before))) in
    let others = dc_low levels x (x -ℤ before) changes is.rest (record { long = omega (arith, far.long); each = λ k lt. far.each (suc k) (omega (arith, lt)) }) is.tail in
    omega (arith, low, others, ap length is.joined, length-append is.one is.rest)

first_low : (levels : List ℤ) (changes : List ℕ) (bits : List ℕ) → AreChanges levels changes → IsDc First levels bits → 6 + dc_bound changes ≤ length bits
first_low [] changes bits far is = absurd (omega (arith, far.long))
first_low (x ∷ levels) changes bits far is =
    let others = dc_low levels x (pos 3) changes is.rest (record { long = omega (arith, far.long); each = far.each }) is.tail in
    omega (arith, first_is_low is.one (folded x) is.head, others, ap length is.joined, length-append is.one is.rest)

-- the spelling has no fewer bits than the bound
pub bound_is_low : (blocks : ℕ) (levels : List ℤ) (bits : List ℕ) (changes : List ℕ) → IsSpelled blocks levels bits → AreChanges (take blocks levels) changes
    → 5 + dc_bound changes + ac_bound 0 (map unsigned_abs (drop blocks levels)) ≤ length bits
bound_is_low blocks levels bits changes is far =
    omega (
      arith,
      first_low (take blocks levels) changes is.part.one far is.part.head,
      pairs_low (drop blocks levels) first_pair 0 is.part.rest is.part.tail,
      saved_four,
      ap length is.part.joined,
      length-append is.part.one is.part.rest,
    )

rest_less : (y x : ℕ) (ys xs : List ℕ) → AreNoGreater (y ∷ ys) (x ∷ xs) → AreNoGreater ys xs
rest_less y x ys xs less = record { long = omega (arith, less.long); each = λ k lt. less.each (suc k) (omega (arith, lt)) }

-- smaller changes have no greater bound
pub dc_bound_falls : (ys xs : List ℕ) → AreNoGreater ys xs → dc_bound ys ≤ dc_bound xs
dc_bound_falls [] [] less = omega arith
dc_bound_falls [] (x ∷ xs) less = absurd (omega (arith, less.long))
dc_bound_falls (y ∷ ys) [] less = absurd (omega (arith, less.long))
dc_bound_falls (y ∷ ys) (x ∷ xs) less =
    omega (arith, change_grows y x (less.each 0 (omega arith)), dc_bound_falls ys xs (rest_less y x ys xs less))

-- so many bits more were counted than for a run that goes on from the other
abbrev IsCredit : ℕ → ℕ → ℕ → Type 0
IsCredit credit r s = (k : ℕ) → least_run (r + k) ≤ least_run (s + k) + credit

with_credit : (credit r s : ℕ) (ys xs : List ℕ) → IsCredit credit r s → AreNoGreater ys xs → ac_bound r ys ≤ ac_bound s xs + credit
with_credit credit r s [] [] has less = omega arith
with_credit credit r s [] (x ∷ xs) has less = absurd (omega (arith, less.long))
with_credit credit r s (y ∷ ys) [] has less = absurd (omega (arith, less.long))
with_credit credit r s (zero ∷ ys) (zero ∷ xs) has less = with_credit credit (r + 1) (s + 1) ys xs (λ k. shifted k) (rest_less 0 0 ys xs less)
  where
    shifted : (k : ℕ) → least_run (r + 1 + k) ≤ least_run (s + 1 + k) + credit
    shifted k =
        let a : r + 1 + k ≡ r + (1 + k) = omega arith in
        let b : s + 1 + k ≡ s + (1 + k) = omega arith in
        rw (a, b) (has (1 + k))
with_credit credit r s (zero ∷ ys) (suc m ∷ xs) has less =
    omega (arith, size_some m, with_credit (credit + 2 + least_run s) (r + 1) 0 ys xs (λ k. joined k) (rest_less 0 (suc m) ys xs less))
  where
    joined : (k : ℕ) → least_run (r + 1 + k) ≤ least_run (0 + k) + (credit + 2 + least_run s)
    joined k =
        let a : r + 1 + k ≡ r + (1 + k) = omega arith in
        let b : s + (1 + k) ≡ s + k + 1 = omega arith in
        let c : 0 + k ≡ k = omega arith in
        let h : least_run (r + (1 + k)) ≤ least_run (s + (1 + k)) + credit = has (1 + k) in
        let moved = rw b at h in
        rw (a, c) (omega (arith, moved, joins s k))
with_credit credit r s (suc n ∷ ys) (zero ∷ xs) has less = absurd (omega (arith, less.each 0 (omega arith)))
with_credit credit r s (suc n ∷ ys) (suc m ∷ xs) has less =
    omega (arith, size_grows n m (omega (arith, less.each 0 (omega arith))), first, with_credit 0 0 0 ys xs (λ k. omega arith) (rest_less (suc n) (suc m) ys xs less))
  where
    first : least_run r ≤ least_run s + credit
    first =
        let a : r + 0 ≡ r = omega arith in
        let b : s + 0 ≡ s = omega arith in
        let h : least_run (r + 0) ≤ least_run (s + 0) + credit = has 0 in
        rw (a, b) at h

-- smaller levels have no greater bound
pub ac_bound_falls : (ys xs : List ℕ) → AreNoGreater ys xs → ac_bound 0 ys ≤ ac_bound 0 xs
ac_bound_falls ys xs less = omega (arith, with_credit 0 0 0 ys xs (λ k. omega arith) less)

-- whatever run stands before, the bound is the same but for six
pub any_run : (r s : ℕ) (sizes : List ℕ) → ac_bound r sizes ≤ ac_bound s sizes + 6
any_run r s sizes =
    with_credit 6 r s sizes sizes (λ k. omega (arith, run_most (r + k), run_some (s + k))) (record { long = refl; each = λ k lt. omega arith })
