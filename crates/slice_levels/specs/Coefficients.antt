-- The half steps and the levels of a part's blocks of samples (own). docs/formats/frames.md, "Quantiser".
use Rattle.std.specs.Prelude.{ℕ, ◌*◌, ◌/◌, ◌%◌, ◌<◌, ◌≤◌, ◌≡◌, ℤ, List, [], length, get_or, slice_index}
use Rattle.prores_scan.specs.declared.scans.Scan.{Scan}
use Rattle.prores_scan.specs.Scans.{place_of}
use Rattle.prores_scan.specs.HalfSteps.{half_steps_of}
use Rattle.prores_scan.specs.Levels.{level_of}
use Rattle.whole_transform.specs.Sums.{at}
use Rattle.whole_transform.specs.Transform.{centred, forward_sum}
use Rattle.slice_levels.specs.Interleaved.{entry_of, weight_of}

-- all samples have ten bits
abbrev pub AreSamples : List (List ℕ) → Type 0
AreSamples blocks = (b p : ℕ) → b < length blocks → p < 64 → slice_index (get_or blocks b []) p < 1024

-- weights that half steps may be counted by
abbrev pub AreWeighable : List ℕ → Type 0
AreWeighable weights = (p : ℕ) → p < 64 → 4 ≤ slice_index weights p

-- the coefficient of a block at the scan position k
abbrev pub coefficient : Scan → List ℕ → ℕ → ℤ
coefficient scan block k = forward_sum (centred block) (place_of scan k / 8) (place_of scan k % 8)

-- the half steps of all coefficients stand at their entries
abbrev pub AreHalfStepsOf : Scan → List ℕ → List (List ℕ) → List ℕ → Type 0
AreHalfStepsOf scan weights blocks half_steps =
    (b k : ℕ) → b < length blocks → k < 64
    → slice_index half_steps (entry_of (length blocks) k b)
    ≡ half_steps_of (coefficient scan (get_or blocks b []) k) (weight_of scan weights k)

-- the levels of all coefficients at a scale stand at their entries, and nothing else does
pub record AreLevelsOf (scan : Scan) (weights : List ℕ) (scale : ℕ) (blocks : List (List ℕ)) (levels : List ℤ) : Type 0 where
  pub long : length levels ≡ 64 * length blocks
  pub each : (b k : ℕ) → b < length blocks → k < 64
      → at levels (entry_of (length blocks) k b)
      ≡ level_of (coefficient scan (get_or blocks b []) k) (weight_of scan weights k) scale
