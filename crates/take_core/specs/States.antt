-- The state of a take's events (own). docs/ARCHITECTURE.md, "The events of a take".
use Rattle.std.specs.Prelude.{ℕ, ◌+◌, Bool, false, ◌&&◌, ◌==◌, if◌then◌else◌, nat_le, nat_lt, true, List, [], ◌∷◌, ◌++◌}
use Rattle.rec_bytes.specs.Configuration.{Fields}
use Rattle.picture_plane.specs.Sizes.{size_of}
use Rattle.picture_plane.specs.Slices.{slice_total}
use Rattle.take_core.specs.History.{published_in, acked_in, phase_in}
use Rattle.take_core.specs.declared.commit_phase.CorePhase.{CorePhase}
use Rattle.take_core.specs.declared.commit_phase.CorePhase.TheVariants as known
use Rattle.take_core.specs.declared.entry.Entry.{Entry}
use Rattle.take_core.specs.declared.numbers.TheConstants.{FLIGHT}
use Rattle.take_core.specs.declared.snapshot.Phase.{Phase}
use Rattle.take_core.specs.declared.snapshot.Phase.TheVariants as phase

-- which slices are in, by the frame and the slice's number in it
abbrev pub Slices : Type 0
Slices = ℕ → ℕ → Bool

-- the numbers of the configuration, the slices that are in, how far a commit has come, whether the tail was written, and
-- the history
pub record CoreState : Type 0 where
  pub max_frames : ℕ
  pub lag : ℕ
  pub slices : ℕ  -- of a frame
  pub is_in : ℕ → ℕ → Bool
  pub commit : CorePhase
  pub tail : Bool
  pub history : List Entry

-- the phase is that of a take that a fault ended
abbrev pub stops : Phase → Bool
stops phase.Growing = false
stops phase.Closed = false
stops phase.Stopped = true

-- a frame from the lowest on that may have slices in, and a number of one of its slices
abbrev pub names_slice : ℕ → ℕ → ℕ → ℕ → Bool
names_slice lowest slices frame index =
    nat_le lowest frame && nat_lt frame (lowest + FLIGHT) && nat_lt index slices

-- no slice is in
abbrev pub no_slices : Slices
no_slices frame index = false

-- this slice is in, and the others are as they were
abbrev pub with_slice : ℕ → ℕ → Slices → Slices
with_slice frame index slices f i = if f == frame && i == index then true else slices f i

-- no slice of this frame is in, and the others are as they were
abbrev pub without_frame : ℕ → Slices → Slices
without_frame frame slices f i = if f == frame then false else slices f i

-- the state in which a take of a configuration begins
abbrev pub fresh : Fields → CoreState
fresh cfg = record {
  max_frames = cfg.max_frames;
  lag = cfg.lag;
  slices = slice_total (size_of cfg) cfg.log2;
  is_in = no_slices;
  commit = known.Idle;
  tail = false;
  history = [];
}

-- frames that may be read; so the number of the lowest frame that may not
abbrev pub published : CoreState → ℕ
published s = published_in s.history

-- frames that are durable
abbrev pub acked : CoreState → ℕ
acked s = acked_in s.history

-- whether the take goes on
abbrev pub phase_of : CoreState → Phase
phase_of s = phase_in s.history

-- a fault ended the take
abbrev pub is_stopped : CoreState → Bool
is_stopped s = stops (phase_of s)

-- the slice is one of the state
abbrev pub is_slice : CoreState → ℕ → ℕ → Bool
is_slice s frame index = names_slice (published s) s.slices frame index

-- the state with one entry more
abbrev pub with_entry : Entry → CoreState → CoreState
with_entry entry s = record s { history = s.history ++ entry ∷ [] }
