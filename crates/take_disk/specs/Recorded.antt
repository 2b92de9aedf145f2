-- The record of a disk in memory, and which of its calls fail (own). docs/ARCHITECTURE.md, "The disk".
use Rattle.std.specs.Prelude.{◌≡◌, ◌+◌, ◌-◌, ◌^◌, ◌==◌, ◌||◌, ℕ, min, Bool, false, not, nat_lt, List, length, Option, Some, None}
use Rattle.std.specs.List.{list_any}
use Rattle.take_disk.specs.declared.area.Area.{Area}
use Rattle.take_disk.specs.declared.area.Area.TheVariants.{Essence, Commits}
use Rattle.take_disk.specs.declared.memory_disk.MemoryDisk.{MemoryDisk}
use Rattle.take_disk.specs.declared.ticket.Ticket.{Ticket}
use Rattle.take_disk.specs.Held.{IsBefore}
use Rattle.take_disk.specs.Calls.{Elapses}
use Rattle.take_disk.specs.Tickets.{moment_of}
use Rattle.take_disk.specs.Logs.{Logs, LeavesSince, one, now}
use Rattle.take_disk.specs.Entered.{log_of}

-- the records of both areas
abbrev pub logs_of : MemoryDisk → Logs
logs_of disk = record { essence = log_of disk.essence; commits = log_of disk.commits; tickets = disk.tickets }

-- a disk in memory made the tickets that name a moment up to now
abbrev pub IsMadeBy : Logs → Ticket → Type 0
IsMadeBy logs ticket = IsBefore (moment_of ticket) (one (now logs))

-- time goes on, by what a crash leaves and which tickets were made
abbrev pub PassesTime : Logs → Logs → Type 0
PassesTime old new = Elapses (one (now old)) (one (now new)) (LeavesSince old) (LeavesSince new) (IsMadeBy old) (IsMadeBy new)

-- the bytes of an area
abbrev pub bytes_of : MemoryDisk → Area → List ℕ
bytes_of disk Essence = disk.essence.bytes.items
bytes_of disk Commits = disk.commits.bytes.items

-- whether a call is at the stop or beyond
abbrev pub is_stopped : Option ℕ → ℕ → Bool
is_stopped None number = false
is_stopped (Some stop) number = not (nat_lt number stop)

-- whether the next call fails whatever it does
abbrev pub fails_next : MemoryDisk → Bool
fails_next disk =
    list_any (λ n. n == disk.number) disk.fail.items || is_stopped disk.stop disk.number || not (nat_lt disk.number disk.essence.calls)

-- whether a write passes the room of its area, or that of all pieces
abbrev pub passes_room : MemoryDisk → ℕ → ℕ → Bool
passes_room disk at count =
    nat_lt disk.essence.room (at + count) || nat_lt disk.essence.room (length disk.essence.pieces.items + length disk.commits.pieces.items + count)

-- one call more was made; all that was given when the disk was made is as it was
pub record MakesCall (old new : MemoryDisk) : Type 0 where
  pub number : new.number ≡ min (old.number + 1) (2 ^ 64 - 1)
  pub fail : new.fail.items ≡ old.fail.items
  pub stop : new.stop ≡ old.stop
  pub room : new.essence.room ≡ old.essence.room
  pub calls : new.essence.calls ≡ old.essence.calls

-- no call was made
pub record MakesNoCall (old new : MemoryDisk) : Type 0 where
  pub number : new.number ≡ old.number
  pub fail : new.fail.items ≡ old.fail.items
  pub stop : new.stop ≡ old.stop
  pub room : new.essence.room ≡ old.essence.room
  pub calls : new.essence.calls ≡ old.essence.calls
