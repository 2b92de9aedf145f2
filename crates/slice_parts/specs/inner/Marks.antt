-- The levels that are still to be written (own).
use Rattle.std.specs.Prelude.{◌≡◌, ◌<◌, ◌≤◌, ◌+◌, ◌-◌, ◌↔◌, ℕ, List, slice_index}
use Rattle.std.specs.Int.{bit_at}
use Rattle.std.specs.Int.RustNames.{unsigned_abs}
use Rattle.prores_scan.specs.ScaledLevels.{signed_of}

-- the size less one of the level that a number means
abbrev pub size_before : ℕ → ℕ
size_before number = unsigned_abs (signed_of number) - 1

-- of the 64 numbers from a place on, those from the entry `next` on that aren't 0 or 1 have a mark of 1, the first the
-- lowest; before the place there are none of them
pub record AreDue (numbers : List ℕ) (at next marks : ℕ) : Type 0 where
  pub few : next ≤ at + 64
  pub each : (j : ℕ) → j < 64 → (bit_at marks j ≡ 1) ↔ ((next ≤ at + j) × (2 ≤ slice_index numbers (at + j)))
  pub before : (e : ℕ) → next ≤ e → e < at → slice_index numbers e ≤ 1
