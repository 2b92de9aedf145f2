-- What a call of a disk does to what it tells, to its lengths and to its moments (own). docs/ARCHITECTURE.md, "The disk".
use Rattle.std.specs.Prelude.{◌≡◌, ◌≤◌, ◌⊎◌, ◌+◌, ℕ, max, List, length, take, Option, Some, None, Result, OnOk}
use Rattle.rec_bytes.specs.Places.{with_bytes}
use Rattle.take_disk.specs.declared.area.Area.{Area}
use Rattle.take_disk.specs.declared.ticket.Ticket.{Ticket}
use Rattle.take_disk.specs.Held.{Moment, IsBefore, Areas, Disk, InArea, Changed, in_area, other}

-- this holds of what is told, where it is
abbrev pub IfTold : {T : Type 0} → Option T → (T → Type 0) → Type 0
IfTold None P = Unit {0}
IfTold (Some told) P = P told

-- who tells nothing goes on telling nothing, and what is told has changed so
abbrev pub Steps : {T : Type 0} → Option T → Option T → (T → T → Type 0) → Type 0
Steps None None step = Unit {0}
Steps None (Some new) step = ⊥
Steps (Some old) None step = ⊥
Steps (Some old) (Some new) step = step old new

-- the area may have changed from this place up to the end of so many bytes
abbrev pub WritesIn : Area → ℕ → ℕ → Disk → Disk → Type 0
WritesIn area at count = InArea area (Changed at (at + count))

-- these bytes are read at this place, and all others as before
abbrev pub Writes : Area → ℕ → List ℕ → Disk → Disk → Type 0
Writes area at bytes old new = (in_area area new).reads ≡ with_bytes ((in_area area old).reads) at bytes

-- the area may have changed from this length on
abbrev pub CutsIn : Area → ℕ → Disk → Disk → Type 0
CutsIn area len old new = InArea area (Changed len (length ((in_area area old).reads))) old new

-- the area reads its first bytes up to this length
abbrev pub Cuts : Area → ℕ → Disk → Disk → Type 0
Cuts area len old new = (in_area area new).reads ≡ take len ((in_area area old).reads)

-- the lengths after a write: the area's has grown to the end of the bytes at most, and just so far where the write succeeded
pub record Grows {E : Type 0} (area : Area) (end : ℕ) (old new : Area → ℕ) (result : Result (Unit {0}) E) : Type 0 where
  pub least : old area ≤ new area
  pub most : new area ≤ max (old area) end
  pub whole : OnOk result (new area ≡ max (old area) end)
  pub same : new (other area) ≡ old (other area)

-- the lengths after a cut: the area's has shrunk to this length at most, and just so far where the cut succeeded
pub record Shrinks {E : Type 0} (area : Area) (len : ℕ) (old new : Area → ℕ) (result : Result (Unit {0}) E) : Type 0 where
  pub least : len ≤ new area
  pub most : new area ≤ old area
  pub whole : OnOk result (new area ≡ len)
  pub same : new (other area) ≡ old (other area)

-- neither what is told has changed nor a length
pub record Stays (told now : Option Disk) (old new : Area → ℕ) : Type 0 where
  pub same : now ≡ told
  pub lengths : (area : Area) → new area ≡ old area

-- Time goes on: since an earlier moment a crash may have left what it might have left before, or what it may leave now, and
-- nothing else. A ticket that was made stays so.
pub record Elapses (before now : Moment) (past since : Moment → Areas → Type 0) (made makes : Ticket → Type 0) : Type 0 where
  pub later : IsBefore before now
  pub nothing_else : (moment : Moment) (image : Areas) → IsBefore moment before → since moment image
      → past moment image ⊎ since now image
  pub keeps : (moment : Moment) (image : Areas) → IsBefore moment before → past moment image → since moment image
  pub tickets : (ticket : Ticket) → made ticket → makes ticket
