-- The history of a take, and what its first entries show (own). docs/ARCHITECTURE.md, "The events of a take".
use Rattle.std.specs.Prelude.{◌≡◌, ◌≤◌, ◌<◌, ◌+◌, ◌-◌, ℕ, Bool, true, false, List, [], ◌∷◌, length, take, Option, Some, None, unwrap_or, IsSome, slice_get, count_by}
use Rattle.take_core.specs.declared.entry.Entry.{Entry}
use Rattle.take_core.specs.declared.entry.Entry.TheVariants as entry
use Rattle.take_core.specs.declared.snapshot.Phase.{Phase}
use Rattle.take_core.specs.declared.snapshot.Phase.TheVariants as phase
use Rattle.take_core.specs.declared.snapshot.Snapshot.{Snapshot}

-- the entry publishes a frame
abbrev pub is_published : Entry → Bool
is_published (entry.Published len) = true
is_published (entry.Acked count) = false
is_published entry.Closed = false
is_published (entry.Stopped faults) = false

-- the count of frames that the entry tells to be durable
abbrev pub acked_by : Entry → Option ℕ
acked_by (entry.Published len) = None
acked_by (entry.Acked count) = Some count
acked_by entry.Closed = None
acked_by (entry.Stopped faults) = None

-- how the entry ends the take
abbrev pub ended_by : Entry → Option Phase
ended_by (entry.Published len) = None
ended_by (entry.Acked count) = None
ended_by entry.Closed = Some phase.Closed
ended_by (entry.Stopped faults) = Some phase.Stopped

-- what the last entry that says anything says, and the first value where none does
abbrev pub last_said : {A : Type 0} → (Entry → Option A) → A → List Entry → A
last_said said first [] = first
last_said said first (entry ∷ entries) = last_said said (unwrap_or (said entry) first) entries

-- published frames
abbrev pub published_in : List Entry → ℕ
published_in entries = count_by is_published entries

-- durable frames
abbrev pub acked_in : List Entry → ℕ
acked_in entries = last_said acked_by 0 entries

-- whether the take goes on
abbrev pub phase_in : List Entry → Phase
phase_in entries = last_said ended_by phase.Growing entries

-- the snapshot after the first s entries
abbrev pub after : List Entry → ℕ → Snapshot
after history s = record {
  step = s;
  published = published_in (take s history);
  acked = acked_in (take s history);
  phase = phase_in (take s history);
}

-- the snapshot after all entries
abbrev pub latest : List Entry → Snapshot
latest history = after history (length history)

-- what is durable is published, the take has room for what is published, and its commits are near enough behind
pub record IsNear (lag max_frames : ℕ) (seen : Snapshot) : Type 0 where
  pub durable : seen.acked ≤ seen.published
  pub room : seen.published ≤ max_frames
  pub near : seen.published - seen.acked ≤ lag

-- a history that a take of these numbers may have
pub record IsLegal (lag max_frames : ℕ) (history : List Entry) : Type 0 where
  pub near : (s : ℕ) → s ≤ length history → IsNear lag max_frames (after history s)
  pub rising : (s count : ℕ) → slice_get history s ≡ Some (entry.Acked count) → (after history s).acked < count
  pub last : (s : ℕ) (end : Entry) → slice_get history s ≡ Some end → IsSome (ended_by end) → s + 1 ≡ length history
  pub whole : (s : ℕ) → slice_get history s ≡ Some entry.Closed → (after history s).acked ≡ (after history s).published
