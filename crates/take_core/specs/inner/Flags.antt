-- The flags of a frame's slices, all of them.
use Rattle.std.specs.Prelude.{◌≡◌, ◌≢◌, ◌<◌, ℕ, ◌%◌, Bool, true, false, List, length, slice_index_or}
use Rattle.take_core.specs.Kept.{flag_at}
use Rattle.take_core.specs.declared.numbers.TheConstants.{FLIGHT}

-- every slice of the frame has its flag
abbrev pub AllSet : List Bool → ℕ → ℕ → Type 0
AllSet marks slices frame = (index : ℕ) → index < slices → flag_at marks frame index ≡ true

-- no slice of the frame, up to this one, has its flag, and the flags of the frames beside it are as they were
pub record Cleared (frame upto : ℕ) (old new : List Bool) : Type 0 where
  pub long : length new ≡ length old
  pub gone : (index : ℕ) → index < upto → flag_at new frame index ≡ false
  pub others : (place : ℕ) → place % FLIGHT ≢ frame % FLIGHT → slice_index_or new place false ≡ slice_index_or old place false
