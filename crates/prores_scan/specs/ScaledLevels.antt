-- The levels of coefficients at any scale, as their half steps tell them (own). docs/formats/frames.md, "Quantiser".
use Rattle.std.specs.Prelude.{◌≡◌, ◌<◌, ◌≤◌, ◌/◌, ◌%◌, ◌==◌, ℕ, ℤ, length, List, pos, neg_ℤ, ◌-ℤ◌, slice_index, if◌then◌else◌}
use Rattle.std.specs.Int.RustNames.{unsigned_abs}
use Rattle.prores_scan.specs.HalfSteps.{half_steps_of}
use Rattle.prores_scan.specs.Levels.{level_of}

-- the number that a size with a sign as its last bit means
abbrev pub signed_of : ℕ → ℤ
signed_of number = if number % 2 == 0 then pos (number / 2) else neg_ℤ (pos (number / 2))

-- the levels at a scale of whatever coefficients have these half steps
abbrev pub AreLevels : List ℕ → ℕ → List ℕ → Type 0
AreLevels half_steps scale levels =
    (k : ℕ) → k < length half_steps → (g : ℤ) (weight : ℕ) → 1 ≤ weight
    → slice_index half_steps k ≡ half_steps_of g weight
    → signed_of (slice_index levels k) ≡ level_of g weight scale

-- the levels at a scale of two coefficients of one weight with these half steps differ by this much or more
abbrev pub AreApart : ℕ → ℕ → ℕ → ℕ → Type 0
AreApart from to scale change =
    (g h : ℤ) (weight : ℕ) → 1 ≤ weight
    → from ≡ half_steps_of g weight → to ≡ half_steps_of h weight
    → change ≤ unsigned_abs (level_of h weight scale -ℤ level_of g weight scale)
