-- What memory keeps of a take's events, always.
use Rattle.std.specs.Prelude.{◌≤◌, ◌+◌, ◌*◌}
use Rattle.take_core.specs.Kept.{Kept, state_of}
use Rattle.take_core.specs.Sound.{IsSound}

-- the state is one of a run, and there is room for every entry that a run may add
pub record KeepsCore (kept : Kept) : Type 0 where
  pub sound : IsSound (state_of kept)
  pub room : 2 * kept.max_frames + 2 ≤ kept.room
