-- What stands in every take (own). docs/ARCHITECTURE.md, "The state of a take".
use Rattle.std.specs.Prelude.{◌≡◌, ◌≤◌, ◌+◌, ℕ, true, List, ◌++◌, length, map, take, slice_get, All, Option, Some}
use Rattle.rec_bytes.specs.Configuration.{Fields}
use Rattle.take_core.specs.Sound.{IsSound}
use Rattle.take_core.specs.States.{no_slices}
use Rattle.take_core.specs.declared.numbers.TheConstants.{MAX_UNIT}
use Rattle.take_core.specs.declared.snapshot.Phase.TheVariants as phase
use Rattle.take_disk.specs.Calls.{IfTold}
use Rattle.take_disk.specs.Held.{Disk}
use Rattle.take_disk.specs.Tickets.{IsNamed}
use Rattle.take_disk.specs.declared.area.Area.TheVariants.{Essence, Commits}
use Rattle.take_disk.specs.declared.disk.TakeDisk.{Ghosts}
use Rattle.take_disk.specs.declared.ticket.Ticket.{Ticket}
use Rattle.take_layout.specs.Takes.{AreUnits}
use Rattle.take_layout.specs.declared.layout.TakeLayout.{Ghosts as LayoutGhosts}
use Rattle.commit_sidecar.specs.Recovers.{file_of}
use Rattle.commit_phases.specs.Phases.{Due, IsOut, commits_reach, waits_for}
use Rattle.commit_phases.specs.Table.{Table, AllSafe, IsClosed}
use Rattle.take_state.specs.Events.{core_of}
use Rattle.take_state.specs.Seen.{TakeSeen, published, acked, phase_of, commits_in, lengths_in}

-- these are the first of the units that are named, where they are
abbrev pub AreFirst : Option (List (List ℕ)) → List (List ℕ) → Type 0
AreFirst named units = IfTold named (λ all. units ≡ take (length units) all)

-- this is the named unit of a number, where they are named
abbrev pub IsNumbered : Option (List (List ℕ)) → ℕ → List ℕ → Type 0
IsNumbered named number unit = IfTold named (λ all. slice_get all number ≡ Some unit)

-- bytes that may be a frame
pub record IsSized (unit : List ℕ) : Type 0 where
  pub some : 1 ≤ length unit
  pub most : length unit ≤ MAX_UNIT

-- the essence begins with the growing file of the units
pub record Begins {L : Type 0} (layout : LayoutGhosts L) (cfg : Fields) (units : List (List ℕ)) (held : Disk) : Type 0 where
  pub rest : List ℕ
  pub reads : held.essence.reads ≡ layout.growing cfg units ++ rest

-- A take of these units. The history is one of a take, and tells the units' lengths. Where the disk tells, the essence begins
-- with their growing file, and whatever a crash leaves is recovered to units of these, and to all that are durable.
pub record IsTakeOf {L D : Type 0} (layout : LayoutGhosts L) (device : Ghosts D) (named : Option (List (List ℕ))) (seen : TakeSeen D) (units : List (List ℕ)) : Type 0 where
  pub sound : IsSound (core_of seen no_slices)
  pub are_units : AreUnits (layout.is_unit seen.config) seen.config.max_frames units
  pub sized : All IsSized units
  pub counted : length units ≡ published seen
  pub lengths : lengths_in seen.history ≡ map length units
  pub first : AreFirst named units
  pub reaches : length (layout.growing seen.config units) ≤ device.length_of seen.disk Essence
  pub begins : IfTold (device.told seen.disk) (Begins layout seen.config units)
  pub safe : IfTold (device.told seen.disk) (AllSafe layout seen.config units (acked seen))

-- The ticket whose barrier is on its way was made by this disk, for the area that the phase of the commit waits for.
pub record IsOwn {D : Type 0} (device : Ghosts D) (seen : TakeSeen D) (ticket : Ticket) : Type 0 where
  pub is_out : IsOut seen.commit
  pub area : ticket.area ≡ waits_for seen.commit
  pub made : IsNamed ticket → device.made seen.disk ticket

-- A take of these units that goes on. The areas have the lengths of what is written, and where the disk tells, it holds what
-- the phase of the commit asks for.
pub record Grows {L D : Type 0} (layout : LayoutGhosts L) (device : Ghosts D) (seen : TakeSeen D) (units : List (List ℕ)) : Type 0 where
  pub essence_len : device.length_of seen.disk Essence ≡ length (file_of layout seen.tail seen.config units)
  pub commits_len : commits_reach (commits_in seen.history) seen.commit ≤ device.length_of seen.disk Commits
  pub due : Due layout seen.config units (acked seen) seen.tail seen.commit
  pub own : (ticket : Ticket) → seen.out ≡ Some ticket → IsOwn device seen ticket
  pub table : IfTold (device.told seen.disk)
      (Table layout seen.config units (acked seen) (commits_in seen.history) seen.tail seen.commit seen.out)

-- A take of these units that is whole: its tail was written, and where the disk tells, it holds the closed file of the units,
-- and the commits say so, and a crash leaves just what it reads.
pub record Ended {L D : Type 0} (layout : LayoutGhosts L) (device : Ghosts D) (seen : TakeSeen D) (units : List (List ℕ)) : Type 0 where
  pub tail : seen.tail ≡ true
  pub closed : IfTold (device.told seen.disk) (IsClosed layout seen.config units (commits_in seen.history))

-- a take of some units, which goes on, is whole, or was stopped; of a stopped one no more stands than of each
pub record IsTaken {L D : Type 0} (layout : LayoutGhosts L) (device : Ghosts D) (named : Option (List (List ℕ))) (seen : TakeSeen D) : Type 0 where
  pub units : List (List ℕ)
  pub stands : IsTakeOf layout device named seen units
  pub grows : phase_of seen ≡ phase.Growing → Grows layout device seen units
  pub ended : phase_of seen ≡ phase.Closed → Ended layout device seen units
