-- The phases of a commit: what the commits read in each, how far both areas are kept, and what each waits for (own).
-- docs/ARCHITECTURE.md, "The phases of a commit".
use Rattle.std.specs.Prelude.{◌≡◌, ◌≢◌, ◌≤◌, ◌<◌, ◌+◌, ℕ, Bool, true, List, [], ◌∷◌, ◌++◌, length, take}
use Rattle.rec_bytes.specs.Configuration.{Fields}
use Rattle.take_core.specs.declared.mark.Mark.{Mark}
use Rattle.take_core.specs.declared.commit_phase.CommitPhase.{CommitPhase}
use Rattle.take_core.specs.declared.commit_phase.CommitPhase.TheVariants.{Idle, MarkOut, Marked, NoteOut, Noted, GateOut, Opened}
use Rattle.take_disk.specs.declared.area.Area.{Area}
use Rattle.take_disk.specs.declared.area.Area.TheVariants.{Essence, Commits}
use Rattle.take_disk.specs.Held.{Moment, IsBefore, joined, Disk}
use Rattle.take_layout.specs.declared.layout.TakeLayout.{Ghosts}
use Rattle.commit_sidecar.specs.Notes.{note_of}
use Rattle.commit_sidecar.specs.Says.{head_of, opened, gate_place}
use Rattle.commit_sidecar.specs.Recovers.{file_of}

-- the phase behind one that waits for a barrier
abbrev pub settled : CommitPhase → CommitPhase
settled Idle = Idle
settled (MarkOut mark) = Marked mark
settled (Marked mark) = Marked mark
settled (NoteOut mark) = Noted mark
settled (Noted mark) = Noted mark
settled (GateOut mark) = Opened mark
settled (Opened mark) = Opened mark

-- the area whose barrier brings a phase on
abbrev pub waits_for : CommitPhase → Area
waits_for Idle = Essence
waits_for (MarkOut mark) = Essence
waits_for (Marked mark) = Essence
waits_for (NoteOut mark) = Commits
waits_for (Noted mark) = Commits
waits_for (GateOut mark) = Commits
waits_for (Opened mark) = Commits

-- a phase that waits for a barrier
abbrev pub IsOut : CommitPhase → Type 0
IsOut Idle = ⊥
IsOut (MarkOut mark) = Unit {0}
IsOut (Marked mark) = ⊥
IsOut (NoteOut mark) = Unit {0}
IsOut (Noted mark) = ⊥
IsOut (GateOut mark) = Unit {0}
IsOut (Opened mark) = ⊥

-- what the commits read behind the open records: the gate, and once the note is written, the note and the next gate
abbrev pub behind_records : ℕ → CommitPhase → List ℕ
behind_records gate Idle = gate ∷ []
behind_records gate (MarkOut mark) = gate ∷ []
behind_records gate (Marked mark) = gate ∷ []
behind_records gate (NoteOut mark) = gate ∷ (note_of mark ++ 0 ∷ [])
behind_records gate (Noted mark) = gate ∷ (note_of mark ++ 0 ∷ [])
behind_records gate (GateOut mark) = 1 ∷ (note_of mark ++ 0 ∷ [])
behind_records gate (Opened mark) = 1 ∷ (note_of mark ++ 0 ∷ [])

-- what the commits read: the head, the open records, and what a phase has behind them
abbrev pub commit_bytes : Fields → List Mark → ℕ → CommitPhase → List ℕ
commit_bytes cfg marks gate phase = head_of cfg ++ (opened marks ++ behind_records gate phase)

-- how far the essence is kept: the length that was acknowledged, or that of the mark
abbrev pub essence_to : ℕ → CommitPhase → ℕ
essence_to acked_len Idle = acked_len
essence_to acked_len (MarkOut mark) = acked_len
essence_to acked_len (Marked mark) = mark.length
essence_to acked_len (NoteOut mark) = mark.length
essence_to acked_len (Noted mark) = mark.length
essence_to acked_len (GateOut mark) = mark.length
essence_to acked_len (Opened mark) = mark.length

-- how far the commits are kept: up to the gate, or up to the next one
abbrev pub commits_to : ℕ → CommitPhase → ℕ
commits_to records Idle = gate_place records + 1
commits_to records (MarkOut mark) = gate_place records + 1
commits_to records (Marked mark) = gate_place records + 1
commits_to records (NoteOut mark) = gate_place records + 1
commits_to records (Noted mark) = gate_place (records + 1) + 1
commits_to records (GateOut mark) = gate_place (records + 1) + 1
commits_to records (Opened mark) = gate_place (records + 1) + 1

-- how far the commits reach
abbrev pub commits_reach : ℕ → CommitPhase → ℕ
commits_reach records Idle = gate_place records + 1
commits_reach records (MarkOut mark) = gate_place records + 1
commits_reach records (Marked mark) = gate_place records + 1
commits_reach records (NoteOut mark) = gate_place (records + 1) + 1
commits_reach records (Noted mark) = gate_place (records + 1) + 1
commits_reach records (GateOut mark) = gate_place (records + 1) + 1
commits_reach records (Opened mark) = gate_place (records + 1) + 1

-- the places of the commits that are kept so far: while a gate is being opened, it is not one of them
abbrev pub IsBeside : ℕ → CommitPhase → ℕ → Type 0
IsBeside records Idle place = Unit {0}
IsBeside records (MarkOut mark) place = Unit {0}
IsBeside records (Marked mark) place = Unit {0}
IsBeside records (NoteOut mark) place = Unit {0}
IsBeside records (Noted mark) place = Unit {0}
IsBeside records (GateOut mark) place = place ≢ gate_place records
IsBeside records (Opened mark) place = Unit {0}

-- the whole essence is kept, nothing behind it: with the mark of a closed file
abbrev pub EssenceIsWhole : CommitPhase → Type 0
EssenceIsWhole Idle = ⊥
EssenceIsWhole (MarkOut mark) = ⊥
EssenceIsWhole (Marked mark) = mark.closed ≡ true
EssenceIsWhole (NoteOut mark) = mark.closed ≡ true
EssenceIsWhole (Noted mark) = mark.closed ≡ true
EssenceIsWhole (GateOut mark) = mark.closed ≡ true
EssenceIsWhole (Opened mark) = mark.closed ≡ true

-- all of the commits are kept: behind an open gate that is
abbrev pub CommitsAreWhole : CommitPhase → Type 0
CommitsAreWhole Idle = ⊥
CommitsAreWhole (MarkOut mark) = ⊥
CommitsAreWhole (Marked mark) = ⊥
CommitsAreWhole (NoteOut mark) = ⊥
CommitsAreWhole (Noted mark) = ⊥
CommitsAreWhole (GateOut mark) = ⊥
CommitsAreWhole (Opened mark) = Unit {0}

-- what a phase asks to be kept, where all is kept that was done to each area up to these moments
pub record IsKept (acked_len records : ℕ) (phase : CommitPhase) (held : Disk) (essence_synced commits_synced : Moment) : Type 0 where
  pub essence : (place : ℕ) → place < essence_to acked_len phase → IsBefore (held.essence.touched place) essence_synced
  pub commits : (place : ℕ) → place < commits_to records phase → IsBeside records phase place
      → IsBefore (held.commits.touched place) commits_synced
  pub whole_essence : EssenceIsWhole phase → IsBefore held.essence.altered essence_synced
  pub whole_commits : CommitsAreWhole phase → IsBefore held.commits.altered commits_synced

-- the moments up to which the areas are kept, once one of them is settled up to a moment
abbrev pub essence_then : Area → Moment → Moment → Moment
essence_then Essence moment synced = joined synced moment
essence_then Commits moment synced = synced

abbrev pub commits_then : Area → Moment → Moment → Moment
commits_then Essence moment synced = synced
commits_then Commits moment synced = joined synced moment

-- a ticket of this moment keeps all that the next phase asks for
abbrev pub WillKeep : ℕ → ℕ → CommitPhase → Disk → Moment → Type 0
WillKeep acked_len records phase held moment =
    IsKept acked_len records (settled phase) held
    (essence_then (waits_for phase) moment held.essence.synced)
    (commits_then (waits_for phase) moment held.commits.synced)

-- A mark that a commit may make: of units that are in the file, of all that were acknowledged, and in the length of their
-- file. It is closed where the tail is written, and then it is of all units.
pub record IsDue {L : Type 0} (layout : Ghosts L) (cfg : Fields) (units : List (List ℕ)) (acked : ℕ) (tail : Bool) (mark : Mark) : Type 0 where
  pub at_least : acked ≤ mark.count
  pub at_most : mark.count ≤ length units
  pub length_is : mark.length ≡ length (file_of layout mark.closed cfg (take mark.count units))
  pub ended : mark.closed ≡ tail
  pub all : tail ≡ true → mark.count ≡ length units

-- the mark of a phase is due
abbrev pub Due : {L : Type 0} → Ghosts L → Fields → List (List ℕ) → ℕ → Bool → CommitPhase → Type 0
Due layout cfg units acked tail Idle = Unit {0}
Due layout cfg units acked tail (MarkOut mark) = IsDue layout cfg units acked tail mark
Due layout cfg units acked tail (Marked mark) = IsDue layout cfg units acked tail mark
Due layout cfg units acked tail (NoteOut mark) = IsDue layout cfg units acked tail mark
Due layout cfg units acked tail (Noted mark) = IsDue layout cfg units acked tail mark
Due layout cfg units acked tail (GateOut mark) = IsDue layout cfg units acked tail mark
Due layout cfg units acked tail (Opened mark) = IsDue layout cfg units acked tail mark
