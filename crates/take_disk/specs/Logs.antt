-- A disk in memory, by the record of its calls: what it holds now, and what a crash at each moment would have left (own).
-- docs/ARCHITECTURE.md, "The disk".
use Rattle.std.specs.Prelude.{◌≤◌, ◌+◌, ℕ, max, nat_lt, if◌then◌else◌, List, [], ◌∷◌, length, take, drop}
use Rattle.rec_bytes.specs.Places.{with_bytes}
use Rattle.take_disk.specs.declared.entry.Entry.{Entry}
use Rattle.take_disk.specs.declared.entry.Deed.{Deed}
use Rattle.take_disk.specs.declared.entry.Deed.TheVariants.{Write, Cut, Fail, Settle}
use Rattle.take_disk.specs.Held.{Moment, Areas, Held, Disk, Leaves}

-- a moment of one device
abbrev pub one : ℕ → Moment
one number = record { first = number; second = 0 }

-- what an area holds, by the numbers of its moments
pub record Content : Type 0 where
  pub reads : List ℕ
  pub touched : ℕ → ℕ
  pub altered : ℕ
  pub synced : ℕ

abbrev pub held_of : Content → Held
held_of kept = record { reads = kept.reads; touched = λ place. one (kept.touched place); altered = one kept.altered; synced = one kept.synced }

-- these bytes and synced
abbrev pub fresh : List ℕ → Content
fresh bytes = record { reads = bytes; touched = λ place. 0; altered = 0; synced = 0 }

-- the places from one up to another were written or cut at this moment
abbrev pub touch : ℕ → ℕ → ℕ → (ℕ → ℕ) → ℕ → ℕ
touch from to moment old place = if nat_lt place from then old place else if nat_lt place to then moment else old place

-- then the area reads these bytes
abbrev pub changed : ℕ → ℕ → ℕ → List ℕ → Content → Content
changed from to moment reads kept = record { reads = reads; touched = touch from to moment kept.touched; altered = moment; synced = kept.synced }

-- what a deed at a moment does to an area; the bytes written are a part of all pieces that were
abbrev pub done : List ℕ → ℕ → Deed → Content → Content
done pieces moment (Write at from len) kept = changed at (at + len) moment (with_bytes kept.reads at (take len (drop from pieces))) kept
done pieces moment (Cut len end) kept = changed len end moment (take len kept.reads) kept
done pieces moment (Fail from to) kept = changed from to moment kept.reads kept
done pieces moment (Settle upto) kept = record kept { synced = max kept.synced upto }

-- one after the other
unfoldable pub replay : List ℕ → List Entry → Content → Content
replay pieces [] kept = kept
replay pieces (entry ∷ entries) kept = replay pieces entries (done pieces entry.moment entry.deed kept)

-- the entries up to a moment
unfoldable pub up_to : ℕ → List Entry → List Entry
up_to moment [] = []
up_to moment (entry ∷ entries) = if nat_lt moment entry.moment then [] else entry ∷ up_to moment entries

-- the record of an area: what it read at first, what was done, the pieces written, and the moment up to which all is kept
pub record Log : Type 0 where
  pub start : List ℕ
  pub entries : List Entry
  pub pieces : List ℕ
  pub synced : ℕ

-- what the area held at a moment
abbrev pub kept_at : ℕ → Log → Content
kept_at moment log = replay log.pieces (up_to moment log.entries) (fresh log.start)

-- what all entries left
abbrev pub replayed : Log → Content
replayed log = replay log.pieces log.entries (fresh log.start)

-- what it holds now; a settling that settles nothing has no entry
abbrev pub kept_now : Log → Content
kept_now log = record (replayed log) { synced = log.synced }

-- both areas, and the tickets that were made
pub record Logs : Type 0 where
  pub essence : Log
  pub commits : Log
  pub tickets : ℕ

-- each entry and each ticket has a moment
abbrev pub now : Logs → ℕ
now logs = length logs.essence.entries + length logs.commits.entries + logs.tickets

abbrev pub disk_now : Logs → Disk
disk_now logs = record { essence = held_of (kept_now logs.essence); commits = held_of (kept_now logs.commits) }

abbrev pub disk_at : ℕ → Logs → Disk
disk_at moment logs = record { essence = held_of (kept_at moment logs.essence); commits = held_of (kept_at moment logs.commits) }

-- a crash at some moment from this one on leaves this
abbrev pub LeavesSince : Logs → Moment → Areas → Type 0
LeavesSince logs moment image = (k : ℕ) × (moment.first ≤ k) × (k ≤ now logs) × Leaves (disk_at k logs) image
