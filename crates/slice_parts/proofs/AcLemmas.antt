-- The AC levels of a part, word by word, the last word first.
use Rattle.std.proofs.Common.{◌≡◌, ◌≢◌, ◌⊎◌, inl, inr, ◌≤◌, ◌<◌, ◌+◌, ◌-◌, ◌*◌, ◌%◌, ◌^◌, ℕ, ℤ, List, length, drop, map, set, replicate, slice_index, refl, sym, ap, subst, ◌∙◌, arith}
use Rattle.std.proofs.lemmas.Bool.{cases_eq}
use Rattle.std.proofs.lemmas.List.{drop-drop, drop-map, get_or-set_same, get_or-set_other, get_or-replicate, length-replicate, length-set}
use Rattle.slice_parts.specs.Pairs.{PairState, ArePairsOf}
use Rattle.slice_parts.specs.Component.{signed_levels}
use Rattle.slice_parts.specs.Bound.{ac_bound, size_at, numbers_at, AreLeft}
use Rattle.slice_parts.specs.inner.Counted.{run_at, Carries, AreAbove, Tail}
use Rattle.slice_parts.specs.laws.LeastBits.{saved_most}
use Rattle.slice_parts.specs.laws.BoundLaws.{pairs_low, any_run}
use Rattle.slice_parts.specs.laws.PartBound.{sizes_from}
use Rattle.slice_parts.proofs.GapLemmas.{carries_on, carries_none}
use Rattle.slice_parts.proofs.WordLemmas.{some_are, sizes_long}

-- none are counted behind the last word
pub tail_none : (half_steps : List ℕ) (scale from before : ℕ) → Tail half_steps scale from 0 before
tail_none half_steps scale from before run carries = omega arith

-- marks that aren't moved are the same
pub tail_same : (half_steps : List ℕ) (scale from bits marks : ℕ) → marks < 2 ^ 64 → Tail half_steps scale from bits marks → Tail half_steps scale from bits (marks * 2 ^ 0 % 2 ^ 64)
tail_same half_steps scale from bits marks small tail =
    let same : marks ≡ marks * 2 ^ 0 % 2 ^ 64 = omega (arith, small) in
    subst (λ (k : ℕ). Tail half_steps scale from bits k) same tail

-- one more word
pub tail_more : (half_steps : List ℕ) (scale at skip bits before marks more : ℕ) → at + 64 ≤ length half_steps → skip ≤ 32
    → Tail half_steps scale (at + 64) bits (marks * 2 ^ skip % 2 ^ 64) → AreAbove half_steps scale (at + skip) (64 - skip) 1 marks
    → ((run : ℕ) → Carries before run → (sizes : List ℕ) → sizes ≡ drop (at + skip) (map (λ v. size_at scale v) half_steps)
    → more + ac_bound (run_at (64 - skip) run sizes) (drop (64 - skip) sizes) ≤ ac_bound run sizes)
    → Tail half_steps scale (at + skip) (bits + more) before
tail_more half_steps scale at skip bits before marks more inside few tail above low run carries =
    let all : List ℕ = map (λ v. size_at scale v) half_steps in
    let sizes : List ℕ = drop (at + skip) all in
    let some = some_are half_steps scale (at + skip) (64 - skip) marks (omega (arith, inside, few)) above in
    let long = sizes_long half_steps scale (at + skip) in
    let place : at + skip + (64 - skip) ≡ at + 64 = omega (arith, few) in
    let rest : drop (64 - skip) sizes ≡ drop (at + 64) all = drop-drop (64 - skip) (at + skip) all ∙ ap (λ (k : ℕ). drop k all) place in
    let word = low run carries sizes refl in
    let behind = tail (run_at (64 - skip) run sizes) (carries_on marks skip before run sizes few (omega (arith, long, inside, few)) some) in
    omega (arith, word, behind, ap (λ (ns : List ℕ). ac_bound (run_at (64 - skip) run sizes) ns) rest)

-- all words
pub tail_all : (half_steps : List ℕ) (scale blocks bits : ℕ) → Tail half_steps scale (0 + blocks) bits (2 ^ 64 - 1)
    → bits ≤ ac_bound 0 (map (λ v. size_at scale v) (drop blocks half_steps))
tail_all half_steps scale blocks bits tail =
    let there : 0 + blocks ≡ blocks = omega arith in
    omega (
      arith,
      tail 0 carries_none,
      ap (λ (k : ℕ). ac_bound 0 (drop k (map (λ (v : ℕ). size_at scale v) half_steps))) there,
      ap (λ (ns : List ℕ). ac_bound 0 ns) (drop-map (λ (v : ℕ). size_at scale v) blocks half_steps),
    )

-- the spelling of the levels from a word on has no fewer bits, but for those that depend on what stands before
pub left_low : (half_steps : List ℕ) (scale word bits before zeros : ℕ) (state : PairState) (spelled : List ℕ) → Tail half_steps scale (64 * word) bits before
    → ArePairsOf state zeros (drop (64 * word) (signed_levels (numbers_at scale half_steps))) spelled → bits - 8 ≤ length spelled
left_low half_steps scale word bits before zeros state spelled tail are =
    let rest : List ℕ = drop (64 * word) (map (λ (v : ℕ). size_at scale v) half_steps) in
    omega (
      arith,
      tail 16 (λ r few none. few),
      any_run 16 zeros rest,
      pairs_low (drop (64 * word) (signed_levels (numbers_at scale half_steps))) state zeros spelled are,
      ap (λ (ns : List ℕ). ac_bound zeros ns) (sizes_from (64 * word) scale half_steps),
      saved_most state.run,
    )

pub left_none : (levels : List ℤ) (n : ℕ) → AreLeft levels (replicate n 0)
left_none levels n word before state bits lt are =
    let zero : ℕ = 0 in
    let long : length (replicate n zero) ≡ n = length-replicate n zero in
    let same : slice_index (replicate n zero) word ≡ 0 = get_or-replicate n word zero zero (omega (arith, lt, long)) in
    omega (arith, same)

pub left_set : (levels : List ℤ) (left : List ℕ) (word value : ℕ) → AreLeft levels left
    → ((before : ℕ) (state : PairState) (bits : List ℕ) → ArePairsOf state before (drop (64 * word) levels) bits → value ≤ length bits)
    → AreLeft levels (set left word value)
left_set levels left word value are low k before state bits lt is = cases (cases_eq k word)
  where
    inside : k < length left
    inside = omega (arith, lt, length-set left word value)

    cases : (k ≡ word) ⊎ (k ≢ word) → slice_index (set left word value) k ≤ length bits
    cases (inl same) =
        let here = subst (λ (n : ℕ). ArePairsOf state before (drop (64 * n) levels) bits) same is in
        subst (λ (n : ℕ). slice_index (set left word value) n ≤ length bits) (sym same)
        (omega (arith, get_or-set_same left word value 0 (omega (arith, same, inside)), low before state bits here))
    cases (inr other) = omega (arith, get_or-set_other left word k value 0 other, are k before state bits inside is)
