-- The divisors of a weight matrix (own). docs/formats/frames.md, "Quantiser".
use Rattle.std.specs.Prelude.{◌≡◌, ◌<◌, ◌≤◌, ℕ, List, get_or, slice_index}
use Rattle.prores_scan.specs.declared.reciprocals.Reciprocal.{Reciprocal}

-- weights that a reciprocal can divide by
abbrev pub AreDivisors : List ℕ → Type 0
AreDivisors weights = (p : ℕ) → p < 64 → 2 ≤ slice_index weights p

-- the reciprocal at each place divides by the weight there
abbrev pub DivideBy : List ℕ → List Reciprocal → Type 0
DivideBy weights reciprocals =
    (p : ℕ) (none : Reciprocal) → p < 64 → (get_or reciprocals p none).divisor ≡ slice_index weights p
