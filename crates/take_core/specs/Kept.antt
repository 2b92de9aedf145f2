-- What memory keeps of a take's events, and the state that it is (own). docs/ARCHITECTURE.md, "The events of a take".
use Rattle.std.specs.Prelude.{ℕ, ◌+◌, ◌*◌, ◌%◌, Bool, false, if◌then◌else◌, List, slice_index_or}
use Rattle.take_core.specs.History.{published_in}
use Rattle.take_core.specs.States.{CoreState, Slices, names_slice}
use Rattle.take_core.specs.declared.commit_phase.CorePhase.{CorePhase}
use Rattle.take_core.specs.declared.entry.Entry.{Entry}
use Rattle.take_core.specs.declared.numbers.TheConstants.{FLIGHT}

-- slices of a frame, and a flag for each slice of each frame that may have slices in
pub record Flags : Type 0 where
  pub slices : ℕ
  pub marks : List Bool

-- the place of a slice's flag: a frame shares its places with those that are FLIGHT and more behind it
abbrev pub place_of : ℕ → ℕ → ℕ
place_of frame index = index * FLIGHT + frame % FLIGHT

-- the flag at the place of a slice
abbrev pub flag_at : List Bool → ℕ → ℕ → Bool
flag_at marks frame index = slice_index_or marks (place_of frame index) false

-- the slices that are in, where this frame is the lowest
abbrev pub slices_in : ℕ → Flags → Slices
slices_in lowest flags frame index =
    if names_slice lowest flags.slices frame index then flag_at flags.marks frame index else false

-- the state, with flags for the slices, and the number of entries for which memory was taken
pub record Kept : Type 0 where
  pub max_frames : ℕ
  pub lag : ℕ
  pub flags : Flags
  pub commit : CorePhase
  pub tail : Bool
  pub history : List Entry
  pub room : ℕ

-- the state
abbrev pub state_of : Kept → CoreState
state_of kept = record {
  max_frames = kept.max_frames;
  lag = kept.lag;
  slices = kept.flags.slices;
  is_in = slices_in (published_in kept.history) kept.flags;
  commit = kept.commit;
  tail = kept.tail;
  history = kept.history;
}
