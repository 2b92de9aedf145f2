-- The table of phases: what a disk holds while a take goes on, and when it is closed (own). docs/ARCHITECTURE.md, "The phases
-- of a commit".
use Rattle.std.specs.Prelude.{◌≡◌, ◌≢◌, ◌≤◌, ℕ, Bool, true, false, List, [], ◌++◌, length, take, Option, Some, None}
use Rattle.rec_bytes.specs.Configuration.{Fields, Spells, spelling}
use Rattle.take_core.specs.declared.mark.Mark.{Mark}
use Rattle.take_core.specs.declared.commit_phase.CommitPhase.{CommitPhase}
use Rattle.take_disk.specs.declared.ticket.Ticket.{Ticket}
use Rattle.take_disk.specs.Held.{IsBefore, Areas, Disk, Leaves}
use Rattle.take_disk.specs.Tickets.{IsNamed, moment_of}
use Rattle.take_layout.specs.Takes.{AreUnits}
use Rattle.take_layout.specs.declared.layout.TakeLayout.{Ghosts}
use Rattle.commit_sidecar.specs.Notes.{Follow}
use Rattle.commit_sidecar.specs.Says.{Says}
use Rattle.commit_sidecar.specs.Recovers.{IsSafe, file_of, mark_of}
use Rattle.commit_phases.specs.Phases.{Due, IsKept, WillKeep, commit_bytes}

-- the length of the growing file of the first units
abbrev pub length_to : {L : Type 0} → Ghosts L → Fields → List (List ℕ) → ℕ → ℕ
length_to layout cfg units count = length (layout.growing cfg (take count units))

-- The table of phases. The essence reads the file of the units, the closed one where the tail is written; the commits read
-- what the phase says behind the open records, of which the last is of the acknowledged units; and what the phase asks for is
-- kept. A ticket that is out will keep what the next phase asks for.
pub record Table {L : Type 0} (layout : Ghosts L) (cfg : Fields) (units : List (List ℕ)) (acked records : ℕ) (tail : Bool)
    (phase : CommitPhase) (out : Option Ticket) (held : Disk) : Type 0 where
  pub is_config : Spells (spelling cfg) cfg
  pub are_units : AreUnits (layout.is_unit cfg) cfg.max_frames units
  pub few : acked ≤ length units
  pub marks : List Mark
  pub follow : Follow None marks
  pub number : length marks ≡ records
  pub counts : mark_of layout cfg marks ≡ record { count = acked; length = length_to layout cfg units acked; closed = false }
  pub gate : ℕ
  pub shut : gate ≢ 1
  pub essence_rest : List ℕ
  pub essence : held.essence.reads ≡ file_of layout tail cfg units ++ essence_rest
  pub ends : tail ≡ true → essence_rest ≡ []
  pub commits_rest : List ℕ
  pub commits : held.commits.reads ≡ commit_bytes cfg marks gate phase ++ commits_rest
  pub due : Due layout cfg units acked tail phase
  pub kept : IsKept (length_to layout cfg units acked) records phase held held.essence.synced held.commits.synced
  pub will_keep : (ticket : Ticket) → out ≡ Some ticket → IsNamed ticket
      → WillKeep (length_to layout cfg units acked) records phase held (moment_of ticket)

-- whatever a crash now leaves is recovered to units of these, and to all that were acknowledged
abbrev pub AllSafe : {L : Type 0} → Ghosts L → Fields → List (List ℕ) → ℕ → Disk → Type 0
AllSafe layout cfg units acked held = (image : Areas) → Leaves held image → IsSafe layout cfg units acked image

-- A closed take: the essence reads the closed file of the units, the commits say so many records, of which the last is the
-- mark of this file, and all of both areas is kept.
pub record IsClosed {L : Type 0} (layout : Ghosts L) (cfg : Fields) (units : List (List ℕ)) (records : ℕ) (held : Disk) : Type 0 where
  pub are_units : AreUnits (layout.is_unit cfg) cfg.max_frames units
  pub marks : List Mark
  pub number : length marks ≡ records
  pub says : Says held.commits.reads cfg marks
  pub counts : mark_of layout cfg marks ≡ record { count = length units; length = length (layout.closed cfg units); closed = true }
  pub essence : held.essence.reads ≡ layout.closed cfg units
  pub essence_kept : IsBefore held.essence.altered held.essence.synced
  pub commits_kept : IsBefore held.commits.altered held.commits.synced
