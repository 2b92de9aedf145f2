-- What memory keeps of a take, always.
use Rattle.std.specs.Prelude.{◌≡◌, ◌≤◌, ◌+◌, ◌*◌, ℕ, Bool, false, List, [], ◌++◌, length, take, drop, slice_get, Option, Some, None}
use Rattle.rec_bytes.specs.Configuration.{Fields}
use Rattle.rec_bytes.specs.Ranges.{IsInRange}
use Rattle.take_core.specs.History.{IsLegal, published_in, acked_in, phase_in}
use Rattle.take_core.specs.Recorded.{Recorded}
use Rattle.take_core.specs.Sound.{IsSound}
use Rattle.take_core.specs.States.{CoreState}
use Rattle.take_core.specs.Steps.{Steps}
use Rattle.take_core.specs.declared.commit_phase.CommitPhase.{CommitPhase}
use Rattle.take_core.specs.declared.commit_phase.CommitPhase.TheVariants.{Idle}
use Rattle.take_core.specs.declared.entry.Entry.{Entry}
use Rattle.take_core.specs.declared.event.Answer.{Answer}
use Rattle.take_core.specs.declared.event.Event.{Event}
use Rattle.take_core.specs.declared.numbers.TheConstants.{MAX_UNIT}
use Rattle.take_core.specs.declared.snapshot.Phase.TheVariants as phase
use Rattle.take_disk.specs.Calls.{IfTold}
use Rattle.take_disk.specs.declared.area.Area.TheVariants.{Essence, Commits}
use Rattle.take_disk.specs.declared.disk.TakeDisk.{Ghosts}
use Rattle.take_disk.specs.declared.ticket.Ticket.{Ticket}
use Rattle.take_layout.specs.Growing.{Growing}
use Rattle.take_layout.specs.declared.layout.TakeLayout.{Ghosts as LayoutGhosts}
use Rattle.take_layout.specs.declared.place.Place.{Place}
use Rattle.commit_sidecar.specs.Says.{gate_place}
use Rattle.commit_phases.specs.Layouts.{LaysOut}
use Rattle.commit_phases.specs.Table.{Table}
use Rattle.take_state.specs.Seen.{TakeSeen, phase_of, commits_in, faults_in}
use Rattle.take_state.specs.Stands.{IsTakeOf, Grows, Ended}

-- every list of at most so many bytes is a unit, in takes of every configuration
abbrev pub AllAreUnits : {L : Type 0} → LayoutGhosts L → Type 0
AllAreUnits layout = (cfg : Fields) (unit : List ℕ) → length unit ≤ MAX_UNIT → layout.is_unit cfg unit

-- what stands of every layout and every take, with all lists of at most so many bytes as units
pub record HasLaws {L : Type 0} (layout : LayoutGhosts L) : Type 0 where
  pub lays_out : LaysOut layout
  pub all_are : AllAreUnits layout
  pub counted : (cfg : Fields) (units : List (List ℕ)) → length (layout.places_of cfg units) ≡ length units
  pub numbered : (cfg : Fields) (units : List (List ℕ)) (unit rest : List ℕ) (place : Place) (i : ℕ)
      → slice_get (layout.places_of cfg units) i ≡ Some place → slice_get units i ≡ Some unit
      → (place.at + place.len ≤ length (layout.growing cfg units))
      × (take place.len (drop place.at (layout.growing cfg units ++ rest)) ≡ unit)
  pub stays : (old new : CoreState) (event : Event) (answer : Answer) → Steps old event answer new → IsSound old → IsSound new
  pub fits : (lag most : ℕ) (entries : List Entry) → IsLegal lag most entries → phase_in entries ≡ phase.Growing
      → length entries ≤ published_in entries + acked_in entries

-- what is kept: the disk, where the units lie, the history, the open records, the commit, and the length of the buffer
pub record TakeParts (D : Type 0) : Type 0 where
  pub disk : D
  pub file : Growing
  pub history : Recorded
  pub records : ℕ
  pub commit : CommitPhase
  pub tail : Bool
  pub out : Option Ticket
  pub stop : Option ℕ
  pub buffer : ℕ

-- the take that this is
abbrev pub seen_of : {D : Type 0} → TakeParts D → TakeSeen D
seen_of parts = record {
  config = parts.file.config;
  disk = parts.disk;
  history = parts.history.entries;
  commit = parts.commit;
  tail = parts.tail;
  out = parts.out;
}

-- a buffer of this length has room for the head, any lead and any tail
pub record HasRoom {L : Type 0} (layout : LayoutGhosts L) (cfg : Fields) (buffer : ℕ) : Type 0 where
  pub head : length (layout.head cfg) ≤ buffer
  pub lead : layout.lead_most cfg ≤ buffer
  pub tail : layout.tail_most cfg ≤ buffer

-- the numbers are those of the history, and there is room for all that may follow
pub record HasRooms {L D : Type 0} (layout : LayoutGhosts L) (parts : TakeParts D) : Type 0 where
  pub ranged : IsInRange parts.file.config
  pub records : parts.records ≡ commits_in parts.history.entries
  pub stop : parts.stop ≡ faults_in parts.history.entries
  pub places : parts.file.config.max_frames ≤ parts.file.room
  pub entries : 2 * parts.file.config.max_frames + 2 ≤ parts.history.room
  pub buffer : HasRoom layout parts.file.config parts.buffer

-- a take of units that lie at the places
pub record KeepsTake {L D : Type 0} (layout : LayoutGhosts L) (device : Ghosts D) (named : Fields → Option (List (List ℕ))) (parts : TakeParts D) : Type 0 where
  pub laws : HasLaws layout
  pub rooms : HasRooms layout parts
  pub units : List (List ℕ)
  pub lie : parts.file.places ≡ layout.places_of parts.file.config units
  pub stands : IsTakeOf layout device (named parts.file.config) (seen_of parts) units
  pub grows : phase_of (seen_of parts) ≡ phase.Growing → Grows layout device (seen_of parts) units
  pub ended : phase_of (seen_of parts) ≡ phase.Closed → Ended layout device (seen_of parts) units

-- a disk on which a take of no units has begun
pub record Begun {L D : Type 0} (layout : LayoutGhosts L) (device : Ghosts D) (cfg : Fields) (disk : D) : Type 0 where
  pub essence_len : device.length_of disk Essence ≡ length (layout.head cfg)
  pub commits_len : device.length_of disk Commits ≡ gate_place 0 + 1
  pub table : IfTold (device.told disk) (Table layout cfg [] 0 0 false Idle None)
