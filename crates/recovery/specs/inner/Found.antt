-- What is found of a take, and what its closing begins with.
use Rattle.std.specs.Prelude.{◌≡◌, ℕ, true, false, List, length, None}
use Rattle.rec_bytes.specs.Configuration.{Fields}
use Rattle.take_core.specs.declared.mark.Mark.{Mark}
use Rattle.take_core.specs.declared.commit_phase.CommitPhase.TheVariants.{Idle, Marked}
use Rattle.take_disk.specs.Held.{Areas, Disk}
use Rattle.take_layout.specs.Growing.{Growing}
use Rattle.take_layout.specs.declared.layout.TakeLayout.{Ghosts}
use Rattle.take_disk.specs.Calls.{IfTold}
use Rattle.take_disk.specs.declared.disk.TakeDisk.{Ghosts as DeviceGhosts}
use Rattle.commit_sidecar.specs.Recovers.{mark_of}
use Rattle.commit_sidecar.specs.Says.{Says, gate_place}
use Rattle.commit_phases.specs.Goes.{LeavesSafe}
use Rattle.commit_phases.specs.Table.{Table}
use Rattle.essence_walk.specs.Essences.{Names}
use Rattle.recovery.specs.Recoveries.{as_read}
use Rattle.recovery.specs.inner.Settles.{IsKept}

-- the commits say marks, the essence has the units that the last one names, and this is where they lie and the gate stands
pub record IsFound {L : Type 0} (layout : Ghosts L) (file : Growing) (gate : ℕ) (mark : Mark) (areas : Areas) : Type 0 where
  pub marks : List Mark
  pub says : Says areas.commits file.config marks
  pub gate_is : gate ≡ gate_place (length marks)
  pub mark_is : mark ≡ mark_of layout file.config marks
  pub units : List (List ℕ)
  pub names : Names layout file.config mark areas.essence units
  pub lie : file.places ≡ layout.places_of file.config units

-- and all of both areas is kept
pub record IsReady {L : Type 0} (layout : Ghosts L) (file : Growing) (gate : ℕ) (mark : Mark) (held : Disk) : Type 0 where
  pub found : IsFound layout file gate mark (as_read held)
  pub essence : IsKept held.essence
  pub commits : IsKept held.commits

-- while a take is closed that was found so, all that a crash may leave is recovered to its units
abbrev pub ClosesSafely : {L D : Type 0} → Ghosts L → DeviceGhosts D → Growing → ℕ → Mark → D → D → Type 0
ClosesSafely layout device file gate mark first now =
    IfTold (device.told first) (λ held. (found : IsFound layout file gate mark (as_read held))
    → LeavesSafe layout device file.config found.units (length found.units) first now)

-- the essence may be closed: behind the growing file of units at this place, by this tail
pub record MayClose {L : Type 0} (layout : Ghosts L) (cfg : Fields) (units : List (List ℕ)) (records at : ℕ) (tail : List ℕ) (held : Disk) : Type 0 where
  pub at_end : at ≡ length (layout.growing cfg units)
  pub tail_is : tail ≡ layout.tail cfg units
  pub table : Table layout cfg units (length units) records false Idle None held

-- the closed essence is kept, and its mark may be noted behind the gate at this place
pub record MayNote {L : Type 0} (layout : Ghosts L) (cfg : Fields) (units : List (List ℕ)) (records gate : ℕ) (mark : Mark) (held : Disk) : Type 0 where
  pub gate_is : gate ≡ gate_place records
  pub table : Table layout cfg units (length units) records true (Marked mark) None held
