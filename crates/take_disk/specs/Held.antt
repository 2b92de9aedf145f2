-- What a disk holds of a take, and what a crash may leave of it (own). docs/ARCHITECTURE.md, "The disk".
use Rattle.std.specs.Prelude.{◌≡◌, ◌≤◌, ◌<◌, ◌⊎◌, ℕ, max, List, length, take, drop, get_or}
use Rattle.take_disk.specs.declared.area.Area.{Area}
use Rattle.take_disk.specs.declared.area.Area.TheVariants.{Essence, Commits}

-- a moment; the second number is of the other device, where a disk is two
pub record Moment : Type 0 where
  pub first : ℕ
  pub second : ℕ

-- the first moment is the second or came before it
pub record IsBefore (a b : Moment) : Type 0 where
  pub first : a.first ≤ b.first
  pub second : a.second ≤ b.second

-- the least moment that is before neither
abbrev pub joined : Moment → Moment → Moment
joined a b = record { first = max a.first b.first; second = max a.second b.second }

-- the bytes of both areas, as a crash leaves them
pub record Areas : Type 0 where
  pub essence : List ℕ
  pub commits : List ℕ

-- the one area and the other
abbrev pub other : Area → Area
other Essence = Commits
other Commits = Essence

-- an area: what it reads, the moment of the last write or cut of each place, that of the last one at all, and the moment up
-- to which all is kept
pub record Held : Type 0 where
  pub reads : List ℕ
  pub touched : ℕ → Moment
  pub altered : Moment
  pub synced : Moment

-- both areas
pub record Disk : Type 0 where
  pub essence : Held
  pub commits : Held

abbrev pub in_area : Area → Disk → Held
in_area Essence disk = disk.essence
in_area Commits disk = disk.commits

-- a place is kept where nothing was written or cut there since the moment up to which all is kept
abbrev pub KeepsPlace : Held → ℕ → Type 0
KeepsPlace held place = IsBefore (held.touched place) held.synced

-- A crash leaves each place that is kept, and where nothing is unsettled just what is read. Of any other byte nothing is known,
-- nor how long the image is.
pub record IsImage (held : Held) (image : List ℕ) : Type 0 where
  pub reaches : (place : ℕ) → place < length held.reads → KeepsPlace held place → place < length image
  pub agrees : (place : ℕ) → place < length held.reads → KeepsPlace held place → get_or image place 0 ≡ get_or held.reads place 0
  pub whole : IsBefore held.altered held.synced → image ≡ held.reads

-- one crash hits both areas
pub record Leaves (disk : Disk) (image : Areas) : Type 0 where
  pub essence : IsImage disk.essence image.essence
  pub commits : IsImage disk.commits image.commits

-- A call may have written or cut between two places, whether it failed or not: bytes outside are as they were, and places
-- outside untouched. A cut goes up to the old length.
pub record Changed (from to : ℕ) (old new : Held) : Type 0 where
  pub before : take from new.reads ≡ take from old.reads
  pub after : drop to new.reads ≡ drop to old.reads
  pub untouched : (place : ℕ) → (place < from) ⊎ (to ≤ place) → new.touched place ≡ old.touched place
  pub synced : new.synced ≡ old.synced

-- All that was done up to a moment is kept, and nothing else is. A sync does this for the moment at which it is made.
pub record Settled (moment : Moment) (old new : Held) : Type 0 where
  pub reads : new.reads ≡ old.reads
  pub touched : (place : ℕ) → new.touched place ≡ old.touched place
  pub altered : new.altered ≡ old.altered
  pub synced : new.synced ≡ joined old.synced moment

-- one area has changed so, and the other not at all
pub record InArea (area : Area) (step : Held → Held → Type 0) (old new : Disk) : Type 0 where
  pub changed : step (in_area area old) (in_area area new)
  pub same : in_area (other area) new ≡ in_area (other area) old

-- nothing was written or cut after this moment
pub record IsPast (moment : Moment) (held : Held) : Type 0 where
  pub touched : (place : ℕ) → IsBefore (held.touched place) moment
  pub altered : IsBefore held.altered moment
