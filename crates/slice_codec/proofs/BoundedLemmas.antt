-- The levels of a part are small enough to be multiplied.
use Rattle.std.proofs.Common.{◌≡◌, ◌≤◌, ◌<◌, ◌⊎◌, ◌+◌, ◌-◌, ◌*◌, ◌^◌, ℕ, zero, suc, ℤ, pos, negsuc, ◌-ℤ◌, List, [], ◌∷◌, ◌++◌, length, take, drop, replicate, slice_index_or, arith, refl, sym, subst, ◌∙◌, inl, inr}
use Rattle.std.specs.List.{flat_map}
use Rattle.std.specs.Int.RustNames.{unsigned_abs}
use Rattle.std.proofs.lemmas.Int.{ints}
use Rattle.std.proofs.lemmas.List.{take-append-drop, length-take, append_assoc, append-nil}
use Rattle.prores_codes.specs.Codes.{Parameters, Spells, IsShort, IsLong, short_count}
use Rattle.prores_codes.specs.Choices.{dc_parameters}
use Rattle.prores_codes.specs.Folded.{folded}
use Rattle.prores_codes.specs.laws.Digits.{pow_le}
use Rattle.prores_codes.specs.laws.Lengths.{IsNarrow, narrow_first, narrow_dc, narrow_level, long_length}
use Rattle.prores_scan.specs.Products.{AreBounded}
use Rattle.slice_parts.specs.Dc.{IsDc, turned}
use Rattle.slice_parts.specs.Dc.DcState.{First, Behind}
use Rattle.slice_parts.specs.Pairs.{Pair, PairState, ArePairs, levels_of}
use Rattle.slice_parts.specs.Component.{IsComponent}

-- every level is at most so large
abbrev pub AreWithin : ℕ → List ℤ → Type 0
AreWithin bound levels = (n : ℕ) → unsigned_abs (slice_index_or levels n (pos 0)) ≤ bound

few_below : (a p : ℕ) → a ≤ 2 → p ≤ 2 ^ 5 → (a + 1) * p ≤ 96
few_below zero p h le = omega arith
few_below (suc zero) p h le = omega arith
few_below (suc (suc zero)) p h le = omega arith
few_below (suc (suc (suc a))) p h le = absurd (omega arith)

-- what a narrow code spells is below 2^20
spelled_below : (code : Parameters) (spelling : List ℕ) (n : ℕ) → IsNarrow code → Spells code spelling n → n < 2 ^ 20
spelled_below code spelling n narrow spells = cases spells.cases
  where
    short : short_count code ≤ 96
    short = few_below code.a (2 ^ code.r) narrow.switch (pow_le code.r 5 narrow.rice)

    cases : IsShort code spelling n ⊎ IsLong code spelling n → n < 2 ^ 20
    cases (inl is) = omega (arith, is.small, short)
    cases (inr is) =
        let digits : is.digits ≤ 19 = omega (arith, long_length code spelling n is, spells.most, narrow.golomb) in
        let most = pow_le is.digits 19 digits in
        omega (arith, is.binary.all, most, short)

-- a folded number is at least its size
folded_size : (v : ℤ) → unsigned_abs v ≤ folded v
folded_size (pos n) = omega arith
folded_size (negsuc k) = omega arith

turned_size : (difference step : ℤ) → unsigned_abs (turned difference step) ≡ unsigned_abs step
turned_size (pos n) step = refl
turned_size (negsuc n) step = omega (arith, ints)

-- a level is near the one before
level_near : (before difference level : ℤ) (n bound : ℕ) → folded (turned difference (level -ℤ before)) ≡ n → n < 2 ^ 20
    → unsigned_abs before ≤ bound → unsigned_abs level ≤ bound + 2 ^ 20
level_near before difference level n bound e small near =
    let size = folded_size (turned difference (level -ℤ before)) in
    let same = turned_size difference (level -ℤ before) in
    omega (arith, ints, size, same, e, small, near)

within_none : (bound : ℕ) → AreWithin bound []
within_none bound n = omega arith

within_more : (bound : ℕ) (level : ℤ) (levels : List ℤ) → unsigned_abs level ≤ bound → AreWithin bound levels → AreWithin bound (level ∷ levels)
within_more bound level levels small within zero = small
within_more bound level levels small within (suc n) = within n

within_zeros : (bound count : ℕ) (levels : List ℤ) → AreWithin bound levels → AreWithin bound (replicate count (pos 0) ++ levels)
within_zeros bound zero levels within = within
within_zeros bound (suc count) levels within = within_more bound (pos 0) (replicate count (pos 0) ++ levels) (omega arith) (within_zeros bound count levels within)

within_less : (bound most : ℕ) (levels : List ℤ) → bound ≤ most → AreWithin bound levels → AreWithin most levels
within_less bound most levels le within n = omega (arith, le, within n)

-- DC levels move away from the one before by less than 2^20 each
dc_behind : (levels : List ℤ) (before difference : ℤ) (bound : ℕ) (bits : List ℕ) → unsigned_abs before ≤ bound → IsDc (Behind before difference) levels bits
    → AreWithin (bound + length levels * 2 ^ 20) levels
dc_behind [] before difference bound bits near is = within_none (bound + 0 * 2 ^ 20)
dc_behind (level ∷ levels) before difference bound bits near is =
    let small = spelled_below (dc_parameters (unsigned_abs difference)) is.one _ (narrow_dc (unsigned_abs difference)) is.head in
    let next = level_near before difference level (folded (turned difference (level -ℤ before))) bound refl small near in
    let rest = dc_behind levels level (level -ℤ before) (bound + 2 ^ 20) is.rest next is.tail in
    let most = bound + length (level ∷ levels) * 2 ^ 20 in
    within_more most level levels (omega (arith, next)) (within_less (bound + 2 ^ 20 + length levels * 2 ^ 20) most levels (omega arith) rest)

dc_within : (levels : List ℤ) (bits : List ℕ) → IsDc First levels bits → AreWithin (length levels * 2 ^ 20) levels
dc_within [] bits is = within_none (0 * 2 ^ 20)
dc_within (level ∷ levels) bits is =
    let small = spelled_below _ is.one (folded level) narrow_first is.head in
    let first : unsigned_abs level ≤ 2 ^ 20 = omega (arith, small, folded_size level) in
    let rest = dc_behind levels level (pos 3) (2 ^ 20) is.rest first is.tail in
    let most = length (level ∷ levels) * 2 ^ 20 in
    within_more most level levels (omega (arith, first)) (within_less (2 ^ 20 + length levels * 2 ^ 20) most levels (omega arith) rest)

-- no level of a pair is above 2^20
pairs_within : (pairs : List Pair) (state : PairState) (bits : List ℕ) (behind : ℕ) → ArePairs state pairs bits
    → AreWithin (2 ^ 20) (flat_map levels_of pairs ++ replicate behind (pos 0))
pairs_within [] state bits behind are = subst (AreWithin (2 ^ 20)) (append-nil (replicate behind (pos 0))) (within_zeros (2 ^ 20) behind [] (within_none (2 ^ 20)))
pairs_within (pair ∷ pairs) state bits behind are =
    let size = spelled_below _ are.head.size (unsigned_abs pair.level - 1) (narrow_level state.size_less_one) are.head.size_spelled in
    let rest = pairs_within pairs _ are.rest behind are.tail in
    let left = flat_map levels_of pairs ++ replicate behind (pos 0) in
    let joined : flat_map levels_of (pair ∷ pairs) ++ replicate behind (pos 0) ≡ replicate pair.run (pos 0) ++ pair.level ∷ left =
    append_assoc (replicate pair.run (pos 0) ++ pair.level ∷ []) (flat_map levels_of pairs) (replicate behind (pos 0))
    ∙ append_assoc (replicate pair.run (pos 0)) (pair.level ∷ []) left in
    subst (AreWithin (2 ^ 20)) (sym joined) (within_zeros (2 ^ 20) pair.run (pair.level ∷ left) (within_more (2 ^ 20) pair.level left (omega (arith, size)) rest))

within_both : (bound : ℕ) (xs ys : List ℤ) → AreWithin bound xs → AreWithin bound ys → AreWithin bound (xs ++ ys)
within_both bound [] ys one two = two
within_both bound (x ∷ xs) ys one two = within_more bound x (xs ++ ys) (one 0) (within_both bound xs ys (λ n. one (suc n)) two)

-- the levels of a part of at most 32 blocks are bounded
pub part_is_bounded : (blocks : ℕ) (bits : List ℕ) (levels : List ℤ) → blocks ≤ 32 → IsComponent blocks bits levels → AreBounded levels
part_is_bounded blocks bits levels few is =
    let dc = dc_within (take blocks levels) is.levels_are.part.one is.levels_are.part.head in
    let pairs = is.levels_are.part.tail in
    let others = subst (AreWithin (2 ^ 20)) (sym pairs.entries) (pairs_within pairs.pairs _ is.levels_are.part.rest pairs.behind pairs.coded) in
    let front : length (take blocks levels) * 2 ^ 20 ≤ 2 ^ 25 = omega (arith, length-take blocks levels, few) in
    let all = within_both (2 ^ 25) (take blocks levels) (drop blocks levels) (within_less (length (take blocks levels) * 2 ^ 20) (2 ^ 25) (take blocks levels) front dc)
    (within_less (2 ^ 20) (2 ^ 25) (drop blocks levels) (omega arith) others) in
    let whole = subst (AreWithin (2 ^ 25)) (take-append-drop blocks levels) all in
    λ n lt. omega (arith, whole n)
