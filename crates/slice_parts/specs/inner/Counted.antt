-- How the bound of a part is counted, 64 entries at a time (own).
use Rattle.std.specs.Prelude.{◌≡◌, ◌<◌, ◌≤◌, ◌+◌, ◌^◌, ◌↔◌, ℕ, zero, suc, List, [], ◌∷◌, drop, map, slice_index}
use Rattle.std.specs.Int.{bit_at}
use Rattle.slice_parts.specs.Bound.{reaches, least_run, least_size, size_at, ac_bound}
use Rattle.slice_parts.specs.declared.bound.TheConstants.{GROWN}

-- the sum of a function's first values
unfoldable pub sum_to : ℕ → (ℕ → ℕ) → ℕ
sum_to zero f = 0
sum_to (suc n) f = f 0 + sum_to n (λ i. f (suc i))

-- the zeros right before a place of a list of sizes that stands behind a run
abbrev pub run_at : ℕ → ℕ → List ℕ → ℕ
run_at zero run sizes = run
run_at (suc i) run [] = run
run_at (suc i) run (zero ∷ sizes) = run_at i (run + 1) sizes
run_at (suc i) run (suc n ∷ sizes) = run_at i 0 sizes

-- what the bound counts for a size behind a run
abbrev pub cost : ℕ → ℕ → ℕ
cost run zero = 0
cost run (suc n) = 1 + least_size n + least_run run

-- 1 where a size that isn't 0 stands behind a run of this length or more
abbrev pub gap : ℕ → ℕ → ℕ → ℕ
gap limit zero run = 0
gap limit (suc n) run = reaches limit run

-- how many of the first sizes that have one bit more a size has reached
abbrev pub passed : ℕ → ℕ → ℕ
passed zero size = 0
passed (suc l) size = passed l size + reaches (slice_index GROWN l) size

-- of the levels at a scale of so many half steps from a place on, those of this size or more have a mark, the first the lowest
pub record AreAbove (half_steps : List ℕ) (scale from count size marks : ℕ) : Type 0 where
  pub small : marks < 2 ^ count
  pub each : (i : ℕ) → i < count → (bit_at marks i ≡ 1) ↔ (size ≤ size_at scale (slice_index half_steps (from + i)))

-- of so many sizes, those that aren't 0 have a mark
pub record AreSome (sizes : List ℕ) (count marks : ℕ) : Type 0 where
  pub small : marks < 2 ^ count
  pub each : (i : ℕ) → i < count → (bit_at marks i ≡ 1) ↔ (1 ≤ slice_index sizes i)

-- the run goes on through the marks of the 64 sizes before, as far as these have no mark, but for more than sixteen
abbrev pub Carries : ℕ → ℕ → Type 0
Carries before run = (r : ℕ) → r ≤ 16 → ((p : ℕ) → p < 64 → 64 ≤ p + r → bit_at before p ≡ 0) → r ≤ run

-- so many bits are counted at most of the levels from a place on, behind any run that goes on through these marks
abbrev pub Tail : List ℕ → ℕ → ℕ → ℕ → ℕ → Type 0
Tail half_steps scale from bits before = (run : ℕ) → Carries before run → bits ≤ ac_bound run (drop from (map (λ v. size_at scale v) half_steps))

-- the r marks before a place are 0, of which the first ones are those of the 64 sizes before
pub record AreClear (marks before i r : ℕ) : Type 0 where
  pub here : (k : ℕ) → k < i → i ≤ k + r → bit_at marks k ≡ 0
  pub back : (p : ℕ) → p < 64 → 64 + i ≤ p + r → bit_at before p ≡ 0

-- where a bit is 0 the r marks before its place are
abbrev pub AreNear : ℕ → ℕ → ℕ → ℕ → Type 0
AreNear marks before r near = (i : ℕ) → i < 64 → bit_at near i ≡ 0 → AreClear marks before i r

-- where a bit is 0 the mark j places before its own is
pub record IsBack (marks before j word : ℕ) : Type 0 where
  pub here : (i k : ℕ) → i < 64 → k + j ≡ i → bit_at word i ≡ 0 → bit_at marks k ≡ 0
  pub back : (i p : ℕ) → i < 64 → p < 64 → p + j ≡ 64 + i → bit_at word i ≡ 0 → bit_at before p ≡ 0
