-- The marks of half steps, and what a word of them counts.
use Rattle.std.proofs.Common.{◌≡◌, ◌↔◌, ℕ, zero, suc, ◌+◌, ◌-◌, ◌*◌, ◌/◌, ◌%◌, ◌^◌, ◌≤◌, ◌<◌, ◌∙◌, arith, ap, sym, subst, List, length, drop, map, slice_index, count_ones}
use Rattle.std.specs.Int.{bit_at}
use Rattle.std.proofs.lemmas.Nat.{shr-shr, shr_below}
use Rattle.std.proofs.lemmas.List.{length-drop, length-map, get_or-drop, get_or-map}
use Rattle.prores_scan.specs.HalfSteps.{AreShort}
use Rattle.prores_scan.specs.Thresholds.{IsThreshold, AreReached}
use Rattle.slice_parts.specs.Bound.{ac_bound, size_at, reaches}
use Rattle.slice_parts.specs.laws.LeastBits.{reached}
use Rattle.slice_parts.specs.laws.PartBound.{has_half_steps, size_is}
use Rattle.slice_parts.specs.declared.bound.TheConstants.{GROWN}
use Rattle.slice_parts.specs.inner.Counted.{AreAbove, AreSome, sum_to, run_at, gap, passed}
use Rattle.slice_parts.proofs.CountLemmas.{sum_less, sum_add, ones_low}
use Rattle.slice_parts.proofs.RunLemmas.{front_low}
use Rattle.slice_parts.proofs.CostLemmas.{marked, cost_low}

-- half steps have reached a threshold where their level has reached the size
threshold_is : (size scale threshold v : ℕ) → IsThreshold size scale threshold → v < 2 ^ 15 → (size ≤ size_at scale v) ↔ (threshold ≤ v)
threshold_is size scale threshold v is short =
    let h = has_half_steps v in
    let same = size_is scale v h.g h.is in
    let test = is h.g 1 (omega arith) (subst (λ (n : ℕ). n < 2 ^ 15) h.is short) in (
      λ le. omega (arith, h.is, test.0 (omega (arith, le, same))),
      λ le. omega (arith, same, test.1 (omega (arith, h.is, le))),
    )

pub above_is : (half_steps : List ℕ) (at skip size scale threshold marks : ℕ) → at + 64 ≤ length half_steps → skip ≤ 32 → AreShort half_steps
    → marks < 2 ^ 64 → AreReached half_steps at threshold marks → IsThreshold size scale threshold
    → AreAbove half_steps scale (at + skip) (64 - skip) size (marks / 2 ^ skip)
above_is half_steps at skip size scale threshold marks inside few short small are is =
    let whole : 64 ≡ 64 - skip + skip = omega (arith, few) in
    record {
      small = shr_below marks (64 - skip) skip (subst (λ (k : ℕ). marks < 2 ^ k) whole small);
      each = λ i lt.
          let place : at + (skip + i) ≡ at + skip + i = omega arith in
          let bit : bit_at (marks / 2 ^ skip) i ≡ bit_at marks (skip + i) = ap (λ (k : ℕ). k % 2) (shr-shr marks skip i) in
          let here = are (skip + i) (omega (arith, lt, few)) in
          let v : ℕ = slice_index half_steps (at + skip + i) in
          let test = threshold_is size scale threshold v is (short (at + skip + i) (omega (arith, lt, few, inside))) in (
            λ set. test.1 (subst (λ (k : ℕ). threshold ≤ slice_index half_steps k) place (here.0 (sym bit ∙ set))),
            λ le. bit ∙ here.1 (subst (λ (k : ℕ). threshold ≤ slice_index half_steps k) (sym place) (test.0 le)),
          );
    }

next_passed : (l size : ℕ) → passed (l + 1) size ≡ passed l size + reaches (slice_index GROWN l) size
next_passed l size =
    let more : l + 1 ≡ suc l = omega arith in
    ap (λ (k : ℕ). passed k size) more

-- one more size whose levels are counted
pub passed_more : (half_steps : List ℕ) (scale from count l bits marks : ℕ) → AreAbove half_steps scale from count (slice_index GROWN l) marks
    → bits ≤ sum_to count (λ i. passed l (size_at scale (slice_index half_steps (from + i))))
    → bits + count_ones marks ≤ sum_to count (λ i. passed (l + 1) (size_at scale (slice_index half_steps (from + i))))
passed_more half_steps scale from count l bits marks above low =
    let size : ℕ → ℕ = λ i. size_at scale (slice_index half_steps (from + i)) in
    let ones : count_ones marks ≤ sum_to count (λ i. reaches (slice_index GROWN l) (size i)) =
    ones_low count marks (λ i. reaches (slice_index GROWN l) (size i)) above.small (λ i lt set. omega (arith, reached (slice_index GROWN l) (size i) ((above.each i lt).0 set))) in
    let both = sum_add count (λ i. passed l (size i)) (λ i. reaches (slice_index GROWN l) (size i)) in
    let less = sum_less count (λ i. passed l (size i) + reaches (slice_index GROWN l) (size i)) (λ i. passed (l + 1) (size i)) (λ i lt. omega (arith, next_passed l (size i))) in
    omega (arith, low, ones, both, less)

passed_up : (d l size : ℕ) → passed l size ≤ passed (l + d) size
passed_up zero l size =
    let same : l + 0 ≡ l = omega arith in
    rw same (omega arith)
passed_up (suc d) l size =
    let more : l + suc d ≡ suc (l + d) = omega arith in
    rw more (omega (arith, passed_up d l size))

-- no size is left
pub passed_all : (half_steps : List ℕ) (scale from count l bits : ℕ) → l ≤ 10
    → bits ≤ sum_to count (λ i. passed l (size_at scale (slice_index half_steps (from + i))))
    → bits ≤ sum_to count (λ i. passed 10 (size_at scale (slice_index half_steps (from + i))))
passed_all half_steps scale from count l bits few low =
    let size : ℕ → ℕ = λ i. size_at scale (slice_index half_steps (from + i)) in
    let ten : l + (10 - l) ≡ 10 = omega (arith, few) in
    omega (arith, low, sum_less count (λ i. passed l (size i)) (λ i. passed 10 (size i)) (λ i lt. subst (λ (k : ℕ). passed l (size i) ≤ passed k (size i)) ten (passed_up (10 - l) l (size i))))

-- the sizes from a place on
pub size_there : (half_steps : List ℕ) (scale from i : ℕ) → from + i < length half_steps
    → slice_index (drop from (map (λ v. size_at scale v) half_steps)) i ≡ size_at scale (slice_index half_steps (from + i))
size_there half_steps scale from i lt =
    get_or-drop from (map (λ v. size_at scale v) half_steps) i 0 ∙ get_or-map (λ v. size_at scale v) half_steps (from + i) 0 0 lt

-- the marks of levels that aren't zero are those of the sizes
pub some_are : (half_steps : List ℕ) (scale from count marks : ℕ) → from + count ≤ length half_steps → AreAbove half_steps scale from count 1 marks
    → AreSome (drop from (map (λ v. size_at scale v) half_steps)) count marks
some_are half_steps scale from count marks inside above = record {
  small = above.small;
  each = λ i lt. subst (λ (n : ℕ). (bit_at marks i ≡ 1) ↔ (1 ≤ n)) (sym (size_there half_steps scale from i (omega (arith, lt, inside)))) (above.each i lt);
}

pub sizes_long : (half_steps : List ℕ) (scale from : ℕ) → length (drop from (map (λ v. size_at scale v) half_steps)) ≡ length half_steps - from
sizes_long half_steps scale from =
    length-drop from (map (λ v. size_at scale v) half_steps) ∙ ap (λ (n : ℕ). n - from) (length-map half_steps (λ v. size_at scale v))

-- the counts of a word of entries, together
pub word_low : (sizes : List ℕ) (n run marks gaps bits : ℕ) → n ≤ length sizes → AreSome sizes n marks
    → gaps ≤ sum_to n (λ i. gap 1 (slice_index sizes i) (run_at i run sizes)) + sum_to n (λ i. gap 2 (slice_index sizes i) (run_at i run sizes))
    + sum_to n (λ i. gap 3 (slice_index sizes i) (run_at i run sizes)) + sum_to n (λ i. gap 6 (slice_index sizes i) (run_at i run sizes))
    + sum_to n (λ i. gap 8 (slice_index sizes i) (run_at i run sizes)) + sum_to n (λ i. gap 16 (slice_index sizes i) (run_at i run sizes))
    → bits ≤ sum_to n (λ i. passed 10 (slice_index sizes i))
    → 3 * count_ones marks + gaps + bits + ac_bound (run_at n run sizes) (drop n sizes) ≤ ac_bound run sizes
word_low sizes n run marks gaps bits inside some gaps_few bits_few =
    let size : ℕ → ℕ = λ i. slice_index sizes i in
    let at : ℕ → ℕ = λ i. run_at i run sizes in
    let m : ℕ → ℕ = λ i. marked (size i) in
    let g : ℕ → ℕ → ℕ = λ r i. gap r (size i) (at i) in
    let p : ℕ → ℕ = λ i. passed 10 (size i) in
    let ones : count_ones marks ≤ sum_to n m = ones_low n marks m some.small (λ i lt set. mark_some (size i) ((some.each i lt).0 set)) in
    let a = sum_add n m m in
    let b = sum_add n (λ i. m i + m i) m in
    let c = sum_add n (λ i. m i + m i + m i) (g 1) in
    let d = sum_add n (λ i. m i + m i + m i + g 1 i) (g 2) in
    let e = sum_add n (λ i. m i + m i + m i + g 1 i + g 2 i) (g 3) in
    let f = sum_add n (λ i. m i + m i + m i + g 1 i + g 2 i + g 3 i) (g 6) in
    let h = sum_add n (λ i. m i + m i + m i + g 1 i + g 2 i + g 3 i + g 6 i) (g 8) in
    let j = sum_add n (λ i. m i + m i + m i + g 1 i + g 2 i + g 3 i + g 6 i + g 8 i) (g 16) in
    let k = sum_add n (λ i. m i + m i + m i + g 1 i + g 2 i + g 3 i + g 6 i + g 8 i + g 16 i) p in
    omega (
      arith,
      ones,
      a,
      b,
      c,
      d,
      e,
      f,
      h,
      j,
      k,
      gaps_few,
      bits_few,
      front_low n (λ i. m i + m i + m i + g 1 i + g 2 i + g 3 i + g 6 i + g 8 i + g 16 i + p i) run sizes inside (λ i lt. cost_low (size i) (at i)),
    )
  where
    mark_some : (s : ℕ) → 1 ≤ s → 1 ≤ marked s
    mark_some zero one = absurd (omega (arith, one))
    mark_some (suc s) one = omega arith

pub no_marks_low : (sizes : List ℕ) (n run : ℕ) → n ≤ length sizes → ac_bound (run_at n run sizes) (drop n sizes) ≤ ac_bound run sizes
no_marks_low sizes n run inside = omega (arith, front_low n (λ i. 0) run sizes inside (λ i lt. omega arith))
