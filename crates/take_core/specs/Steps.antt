-- What each event does to a take, where it is due, and why it is refused (own). docs/ARCHITECTURE.md, "The events of a take".
use Rattle.std.specs.Prelude.{◌≡◌, ◌≤◌, ◌<◌, ℕ, ◌-◌, true, false, if◌then◌else◌, nat_le, ◌⊎◌}
use Rattle.take_core.specs.History.{latest}
use Rattle.take_core.specs.States.{CoreState, published, acked, phase_of, is_slice, is_stopped, with_slice, without_frame, with_entry}
use Rattle.take_core.specs.declared.commit_phase.CorePhase.TheVariants.{Idle, Marked, Noted, Opened}
use Rattle.take_core.specs.declared.entry.Entry.TheVariants as entry
use Rattle.take_core.specs.declared.event.Answer.{Answer}
use Rattle.take_core.specs.declared.event.Answer.TheVariants.{Done, Seen, Refused}
use Rattle.take_core.specs.declared.event.Event.{Event}
use Rattle.take_core.specs.declared.event.Event.TheVariants.{SliceIn, Publish, BeginCommit, NoteRecord, OpenGate, Acknowledge, WriteTail, Finish, Stop, Look}
use Rattle.take_core.specs.declared.mark.CoreMark.{CoreMark}
use Rattle.take_core.specs.declared.numbers.TheConstants.{MAX_UNIT, NOT_DUE, LAGGING, STOPPED, TAKE_FULL, ENDED, DOUBLE, STRANGER}
use Rattle.take_core.specs.declared.snapshot.Phase.TheVariants as phase

-- the slice is one of the frames that may have slices in, and isn't in: it is in
pub record TakesSlice (frame index : ℕ) (old new : CoreState) : Type 0 where
  pub named : is_slice old frame index ≡ true
  pub first : old.is_in frame index ≡ false
  pub effect : new ≡ record old { is_in = with_slice frame index old.is_in }

-- the lowest frame is whole, the take has room, and the commits are near: the frame is published, its slices are forgotten
pub record Publishes (len : ℕ) (old new : CoreState) : Type 0 where
  pub growing : phase_of old ≡ phase.Growing
  pub no_tail : old.tail ≡ false
  pub room : published old < old.max_frames
  pub near : published old - acked old < old.lag
  pub whole : (index : ℕ) → index < old.slices → old.is_in (published old) index ≡ true
  pub some : 1 ≤ len
  pub most : len ≤ MAX_UNIT
  pub effect : new ≡ with_entry (entry.Published len) (record old { is_in = without_frame (published old) old.is_in })

-- there are published frames that aren't durable: a commit of all of them begins
pub record Begins (old new : CoreState) : Type 0 where
  pub growing : phase_of old ≡ phase.Growing
  pub idle : old.commit ≡ Idle
  pub behind : acked old < published old
  pub no_tail : old.tail ≡ false
  pub effect : new ≡ record old { commit = Marked (record { count = published old; closed = false }) }

-- the essence of the mark is kept: so is its record
pub record Notes (old new : CoreState) : Type 0 where
  pub mark : CoreMark
  pub growing : phase_of old ≡ phase.Growing
  pub marked : old.commit ≡ Marked mark
  pub effect : new ≡ record old { commit = Noted mark }

-- the record of the mark is kept: its gate is open
pub record Opens (old new : CoreState) : Type 0 where
  pub mark : CoreMark
  pub growing : phase_of old ≡ phase.Growing
  pub noted : old.commit ≡ Noted mark
  pub effect : new ≡ record old { commit = Opened mark }

-- the gate of an open mark is open: its frames are durable
pub record Acknowledges (old new : CoreState) : Type 0 where
  pub mark : CoreMark
  pub growing : phase_of old ≡ phase.Growing
  pub opened : old.commit ≡ Opened mark
  pub not_closed : mark.closed ≡ false
  pub effect : new ≡ with_entry (entry.Acked mark.count) (record old { commit = Idle })

-- all published frames are durable: the tail is written, and a commit of the closed file begins
pub record WritesTail (old new : CoreState) : Type 0 where
  pub growing : phase_of old ≡ phase.Growing
  pub idle : old.commit ≡ Idle
  pub level : acked old ≡ published old
  pub no_tail : old.tail ≡ false
  pub effect : new ≡ record old { tail = true; commit = Marked (record { count = published old; closed = true }) }

-- the gate of a closed mark is open: the take is whole
pub record Finishes (old new : CoreState) : Type 0 where
  pub mark : CoreMark
  pub growing : phase_of old ≡ phase.Growing
  pub opened : old.commit ≡ Opened mark
  pub closed : mark.closed ≡ true
  pub effect : new ≡ with_entry entry.Closed (record old { commit = Idle })

-- there were faults: the take ends
pub record Stops (faults : ℕ) (old new : CoreState) : Type 0 where
  pub growing : phase_of old ≡ phase.Growing
  pub some : 1 ≤ faults
  pub effect : new ≡ with_entry (entry.Stopped faults) old

-- the event is due, and does this. A look does nothing
abbrev pub Does : CoreState → Event → CoreState → Type 0
Does old (SliceIn frame index) new = TakesSlice frame index old new
Does old (Publish len) new = Publishes len old new
Does old BeginCommit new = Begins old new
Does old NoteRecord new = Notes old new
Does old OpenGate new = Opens old new
Does old Acknowledge new = Acknowledges old new
Does old WriteTail new = WritesTail old new
Does old Finish new = Finishes old new
Does old (Stop faults) new = Stops faults old new
Does old (Look reader) new = new ≡ old

-- the answer to an event that is due
abbrev pub answer_of : CoreState → Event → Answer
answer_of s (Look reader) = Seen (latest s.history)
answer_of s event = Done

-- the number of the refusal of an event that isn't due: the first whose cause stands
abbrev pub refusal : CoreState → Event → ℕ
refusal s (SliceIn frame index) = if is_slice s frame index then DOUBLE else STRANGER
refusal s (Publish len) =
    if is_stopped s then STOPPED
    else if s.tail then ENDED
    else if nat_le s.max_frames (published s) then TAKE_FULL
    else if nat_le s.lag (published s - acked s) then LAGGING
    else NOT_DUE
refusal s event = if is_stopped s then STOPPED else NOT_DUE

-- the event is due, and happens
pub record Happens (old : CoreState) (event : Event) (answer : Answer) (new : CoreState) : Type 0 where
  pub does : Does old event new
  pub told : answer ≡ answer_of old event

-- the event isn't due, and nothing changes
pub record Refuses (old : CoreState) (event : Event) (answer : Answer) (new : CoreState) : Type 0 where
  pub not_due : (other : CoreState) → ¬ Does old event other
  pub told : answer ≡ Refused (refusal old event)
  pub same : new ≡ old

-- the event turns the old state into the new one, with this answer
abbrev pub Steps : CoreState → Event → Answer → CoreState → Type 0
Steps old event answer new = Happens old event answer new ⊎ Refuses old event answer new
