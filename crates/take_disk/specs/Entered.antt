-- The record of an area in memory after one deed more (own).
use Rattle.std.specs.Prelude.{◌≡◌, ◌<◌, ◌⊎◌, ◌+◌, ℕ, max, List, [], ◌∷◌, ◌++◌, length}
use Rattle.take_disk.specs.declared.entry.Deed.{Deed}
use Rattle.take_disk.specs.declared.entry.Deed.TheVariants.{Write, Fail, Settle}
use Rattle.take_disk.specs.declared.memory_area.MemoryArea.{MemoryArea}
use Rattle.take_disk.specs.declared.area.Area.{Area}
use Rattle.take_disk.specs.declared.area.Area.TheVariants.{Essence, Commits}
use Rattle.take_disk.specs.Logs.{Log, Logs, now}

abbrev pub log_of : MemoryArea → Log
log_of area = record { start = area.start.items; entries = area.entries.items; pieces = area.pieces.items; synced = area.synced }

-- a deed more
abbrev pub entered : ℕ → Deed → Log → Log
entered moment deed log = record log { entries = log.entries ++ record { moment = moment; deed = deed } ∷ [] }

-- a write more, and its piece
abbrev pub written : ℕ → ℕ → List ℕ → Log → Log
written moment at bytes log = record (entered moment (Write at (length log.pieces) (length bytes)) log) { pieces = log.pieces ++ bytes }

-- all up to a moment is kept, which has an entry where it settles something
abbrev pub Settles : ℕ → ℕ → Log → Log → Type 0
Settles moment upto old new =
    ((old.synced < upto) × (new ≡ record (entered moment (Settle upto) old) { synced = upto })) ⊎ (new ≡ record old { synced = max old.synced upto })

-- the record of one area, and both with another there
abbrev pub in_logs : Area → Logs → Log
in_logs Essence logs = logs.essence
in_logs Commits logs = logs.commits

abbrev pub with_log : Area → Log → Logs → Logs
with_log Essence log logs = record logs { essence = log }
with_log Commits log logs = record logs { commits = log }

-- one area has a deed more, at the next moment
abbrev pub enters : Area → Deed → Logs → Logs
enters area deed logs = with_log area (entered (now logs + 1) deed (in_logs area logs)) logs

-- one area has a write more, at the next moment
abbrev pub writes : Area → ℕ → List ℕ → Logs → Logs
writes area at bytes logs = with_log area (written (now logs + 1) at bytes (in_logs area logs)) logs

-- one area is settled
pub record SettlesIn (area : Area) (upto : ℕ) (old new : Logs) : Type 0 where
  pub log : Log
  pub settles : Settles (now old + 1) upto (in_logs area old) log
  pub is : new ≡ with_log area log old

-- a write or cut of one area failed, and is recorded or not
abbrev pub Fails : Area → ℕ → ℕ → Logs → Logs → Type 0
Fails area from to old new = (new ≡ enters area (Fail from to) old) ⊎ (new ≡ old)
