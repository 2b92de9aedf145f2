-- A take as its calls see it (own). docs/ARCHITECTURE.md, "The state of a take".
use Rattle.std.specs.Prelude.{ℕ, Bool, true, false, List, [], ◌∷◌, ◌++◌, Option, Some, None, count_by}
use Rattle.rec_bytes.specs.Configuration.{Fields}
use Rattle.take_core.specs.History.{published_in, acked_in, phase_in}
use Rattle.take_core.specs.declared.commit_phase.CommitPhase.{CommitPhase}
use Rattle.take_core.specs.declared.commit_phase.CommitPhase.TheVariants.{Idle}
use Rattle.take_core.specs.declared.entry.Entry.{Entry}
use Rattle.take_core.specs.declared.entry.Entry.TheVariants as entry
use Rattle.take_core.specs.declared.snapshot.Phase.{Phase}
use Rattle.take_disk.specs.declared.ticket.Ticket.{Ticket}

-- a take: its configuration, its disk, the history, how far a commit has come, whether the tail was written, and the ticket
-- whose barrier is on its way
pub record TakeSeen (D : Type 0) : Type 0 where
  pub config : Fields
  pub disk : D
  pub history : List Entry
  pub commit : CommitPhase
  pub tail : Bool
  pub out : Option Ticket

-- a take on a disk to which nothing has happened
abbrev pub fresh_take : {D : Type 0} → Fields → D → TakeSeen D
fresh_take cfg device = record { config = cfg; disk = device; history = []; commit = Idle; tail = false; out = None }

-- frames that may be read
abbrev pub published : {D : Type 0} → TakeSeen D → ℕ
published seen = published_in seen.history

-- frames that are durable
abbrev pub acked : {D : Type 0} → TakeSeen D → ℕ
acked seen = acked_in seen.history

-- whether the take goes on
abbrev pub phase_of : {D : Type 0} → TakeSeen D → Phase
phase_of seen = phase_in seen.history

-- the entry tells that a commit is done: of frames, or of the whole file
abbrev pub is_commit : Entry → Bool
is_commit (entry.Published len) = false
is_commit (entry.Acked count) = true
is_commit entry.Closed = true
is_commit (entry.Stopped faults) = false

-- commits that are done
abbrev pub commits_in : List Entry → ℕ
commits_in entries = count_by is_commit entries

-- the lengths of the published frames, in order
abbrev pub lengths_in : List Entry → List ℕ
lengths_in [] = []
lengths_in (entry.Published len ∷ entries) = len ∷ lengths_in entries
lengths_in (entry.Acked count ∷ entries) = lengths_in entries
lengths_in (entry.Closed ∷ entries) = lengths_in entries
lengths_in (entry.Stopped faults ∷ entries) = lengths_in entries

-- the count of faults with which the take was stopped
abbrev pub faults_in : List Entry → Option ℕ
faults_in [] = None
faults_in (entry.Published len ∷ entries) = faults_in entries
faults_in (entry.Acked count ∷ entries) = faults_in entries
faults_in (entry.Closed ∷ entries) = faults_in entries
faults_in (entry.Stopped faults ∷ entries) = Some faults

-- the take with one entry more
abbrev pub with_entry : {D : Type 0} → Entry → TakeSeen D → TakeSeen D
with_entry next seen = record seen { history = seen.history ++ next ∷ [] }
