-- What a recovery leaves of two areas, and when it refuses them (own). docs/ARCHITECTURE.md, "Recovery".
use Rattle.std.specs.Prelude.{◌≡◌, ◌≤◌, ◌⊎◌, ℕ, true, false, List, [], ◌∷◌, ◌++◌, length, take}
use Rattle.rec_bytes.specs.Configuration.{Fields}
use Rattle.take_core.specs.declared.mark.Mark.{Mark}
use Rattle.take_disk.specs.Held.{IsBefore, Areas, Disk}
use Rattle.take_layout.specs.declared.layout.TakeLayout.{Ghosts}
use Rattle.commit_sidecar.specs.Says.{Says}
use Rattle.commit_sidecar.specs.Recovers.{Recovers, mark_of}
use Rattle.commit_sidecar.specs.Refusals.{Refuses as RefusesCommits}
use Rattle.commit_sidecar.specs.declared.file.SaidFault.TheVariants as said
use Rattle.essence_walk.specs.Essences.{IsDamaged}
use Rattle.essence_walk.specs.declared.fault.TheConstants.{ESSENCE_AREA}
use Rattle.recovery.specs.declared.answer.Recovered.{Recovered}
use Rattle.recovery.specs.declared.answer.Recovered.TheVariants.{Closed, Already}
use Rattle.recovery.specs.declared.answer.RecoverFault.{RecoverFault}
use Rattle.recovery.specs.declared.answer.RecoverFault.TheVariants.{Memory, NoTake, Damaged, DiskFault}

-- both areas as they are read
abbrev pub as_read : Disk → Areas
as_read disk = record { essence = disk.essence.reads; commits = disk.commits.reads }

-- all of both areas is kept, so that a crash leaves them just as they are read
pub record AreKept (disk : Disk) : Type 0 where
  pub essence : IsBefore disk.essence.altered disk.essence.synced
  pub commits : IsBefore disk.commits.altered disk.commits.synced

-- the mark of a closed file of so many units and bytes
abbrev pub closed_mark : ℕ → ℕ → Mark
closed_mark count len = record { count = count; length = len; closed = true }

-- The areas were recovered to units, by an open mark. Now the essence is their closed file, the commits say one mark more, which is
-- that of this file, and all is kept.
pub record Closes {L : Type 0} (layout : Ghosts L) (frames len : ℕ) (was : Areas) (now : Disk) : Type 0 where
  pub cfg : Fields
  pub units : List (List ℕ)
  pub recovers : Recovers layout cfg units was
  pub was_open : (mark_of layout cfg recovers.marks).closed ≡ false
  pub frames_are : frames ≡ length units
  pub len_is : len ≡ length (layout.closed cfg units)
  pub essence : now.essence.reads ≡ layout.closed cfg units
  pub commits : Says now.commits.reads cfg (recovers.marks ++ closed_mark frames len ∷ [])
  pub kept : AreKept now

-- The areas were recovered to units, by a closed mark. They are read as they were, and all is kept.
pub record WasClosed {L : Type 0} (layout : Ghosts L) (frames len : ℕ) (was : Areas) (now : Disk) : Type 0 where
  pub cfg : Fields
  pub units : List (List ℕ)
  pub recovers : Recovers layout cfg units was
  pub was_closed : (mark_of layout cfg recovers.marks).closed ≡ true
  pub frames_are : frames ≡ length units
  pub len_is : len ≡ length (layout.closed cfg units)
  pub same : as_read now ≡ was
  pub kept : AreKept now

-- what an answer says of the areas as they were read and as they are held now
abbrev pub Leads : {L : Type 0} → Ghosts L → Recovered → Areas → Disk → Type 0
Leads layout (Closed count len) was now = Closes layout count len was now
Leads layout (Already count len) was now = WasClosed layout count len was now

-- the mark that an answer names
abbrev pub mark_in : Recovered → Mark
mark_in (Closed count len) = closed_mark count len
mark_in (Already count len) = closed_mark count len

-- areas are the closed file of the units that others were recovered to, and the mark that an answer names says so
pub record IsClosedFor {L : Type 0} (layout : Ghosts L) (was : Areas) (done : Recovered) (image : Areas) : Type 0 where
  pub cfg : Fields
  pub units : List (List ℕ)
  pub were : Recovers layout cfg units was
  pub recovers : Recovers layout cfg units image
  pub mark : mark_of layout cfg recovers.marks ≡ mark_in done
  pub essence : image.essence ≡ layout.closed cfg units

-- Of units of which so many were acknowledged, the essence is the closed file of the first ones, as many as an answer names, and
-- none is missing that was acknowledged.
pub record KeepsAcked {L : Type 0} (layout : Ghosts L) (cfg : Fields) (units : List (List ℕ)) (acked : ℕ) (done : Recovered) (now : Disk) : Type 0 where
  pub at_least : acked ≤ (mark_in done).count
  pub at_most : (mark_in done).count ≤ length units
  pub essence : now.essence.reads ≡ layout.closed cfg (take (mark_in done).count units)

-- the commits say marks, and the essence isn't what the mark that counts says, which shows at this place
pub record EssenceIsDamaged {L : Type 0} (layout : Ghosts L) (areas : Areas) (at : ℕ) : Type 0 where
  pub cfg : Fields
  pub marks : List Mark
  pub says : Says areas.commits cfg marks
  pub damaged : IsDamaged layout cfg (mark_of layout cfg marks) areas.essence at

-- the refusal is due, if it speaks of what is read: the commits are judged before the essence
abbrev pub Refuses : {L : Type 0} → Ghosts L → RecoverFault → Areas → Type 0
Refuses layout Memory areas = Unit {0}
Refuses layout (NoTake at other) areas = RefusesCommits areas.commits (said.NoTake at other)
Refuses layout (Damaged at other) areas =
    RefusesCommits areas.commits (said.Damaged at other) ⊎ (EssenceIsDamaged layout areas at × (other ≡ ESSENCE_AREA))
Refuses layout (DiskFault at) areas = Unit {0}

-- the fault is a refusal of what is read
abbrev pub IsRefusal : RecoverFault → Type 0
IsRefusal Memory = ⊥
IsRefusal (NoTake at other) = Unit {0}
IsRefusal (Damaged at other) = Unit {0}
IsRefusal (DiskFault at) = ⊥

-- but after a fault of the disk, both areas are read as at the start
abbrev pub ReadsAsBefore : RecoverFault → Disk → Disk → Type 0
ReadsAsBefore Memory old new = as_read new ≡ as_read old
ReadsAsBefore (NoTake at other) old new = as_read new ≡ as_read old
ReadsAsBefore (Damaged at other) old new = as_read new ≡ as_read old
ReadsAsBefore (DiskFault at) old new = Unit {0}
