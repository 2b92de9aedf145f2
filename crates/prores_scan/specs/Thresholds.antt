-- From which half steps on a level has a size or more (own). docs/formats/frames.md, "Quantiser".
use Rattle.std.specs.Prelude.{◌≡◌, ◌<◌, ◌≤◌, ◌+◌, ◌^◌, ◌↔◌, ℕ, ℤ, List, slice_index}
use Rattle.std.specs.Int.{bit_at}
use Rattle.std.specs.Int.RustNames.{unsigned_abs}
use Rattle.prores_scan.specs.HalfSteps.{half_steps_of}
use Rattle.prores_scan.specs.Levels.{level_of}

-- the coefficients from these half steps on, of those below 2 ^ 15, are those whose levels at a scale have this size or more
abbrev pub IsThreshold : ℕ → ℕ → ℕ → Type 0
IsThreshold size scale half_steps =
    (g : ℤ) (weight : ℕ) → 1 ≤ weight → half_steps_of g weight < 2 ^ 15
    → (size ≤ unsigned_abs (level_of g weight scale)) ↔ (half_steps ≤ half_steps_of g weight)

-- of 64 entries from a place on, those at the threshold or above it have a bit of 1, the first entry the lowest
abbrev pub AreReached : List ℕ → ℕ → ℕ → ℕ → Type 0
AreReached half_steps at threshold bits =
    (k : ℕ) → k < 64 → (bit_at bits k ≡ 1) ↔ (threshold ≤ slice_index half_steps (at + k))
