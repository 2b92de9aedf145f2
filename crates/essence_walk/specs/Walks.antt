-- What a walk over the essence of a take answers (own). docs/formats/commits.md, "Damaged essences".
use Rattle.std.specs.Prelude.{◌≡◌, ◌≤◌, ◌+◌, ℕ, true, All, List, length, Result, Ok, Err}
use Rattle.rec_bytes.specs.Configuration.{Fields}
use Rattle.rec_bytes.specs.Faults.{Rose}
use Rattle.commit_sidecar.specs.Recovers.{file_of}
use Rattle.take_core.specs.declared.mark.Mark.{Mark}
use Rattle.take_layout.specs.Growing.{Growing}
use Rattle.take_layout.specs.declared.layout.TakeLayout.{Ghosts}
use Rattle.take_layout.specs.declared.place.Place.{Place}
use Rattle.essence_walk.specs.Essences.{IsDamaged}
use Rattle.essence_walk.specs.declared.fault.TheConstants.{ESSENCE_AREA}
use Rattle.essence_walk.specs.declared.fault.WalkFault.{WalkFault}
use Rattle.essence_walk.specs.declared.fault.WalkFault.TheVariants.{Memory, DiskFault, Damaged}

-- What is known of the places that are found, whatever the disk tells: they are as many as the mark says, the file of units
-- that lie there has the mark's length, each unit ends within it, and it within the essence, which a closed file fills.
pub record LieInside {L : Type 0} (layout : Ghosts L) (cfg : Fields) (mark : Mark) (essence_len : ℕ) (file : Growing) : Type 0 where
  pub config : file.config ≡ cfg
  pub count : mark.count ≡ length file.places
  pub length_is : (units : List (List ℕ)) → file.places ≡ layout.places_of cfg units
      → mark.length ≡ length (file_of layout mark.closed cfg units)
  pub each : All (λ (place : Place). place.at + place.len ≤ mark.length) file.places
  pub within : mark.length ≤ essence_len
  pub fills : mark.closed ≡ true → essence_len ≡ mark.length

-- a fault that says that the essence is damaged names the place
abbrev pub IfDamaged : {L : Type 0} → Ghosts L → Fields → Mark → List ℕ → WalkFault → Type 0
IfDamaged layout cfg mark essence Memory = Unit {0}
IfDamaged layout cfg mark essence (DiskFault faults) = Unit {0}
IfDamaged layout cfg mark essence (Damaged at other) = IsDamaged layout cfg mark essence at × (other ≡ ESSENCE_AREA)

-- why a walk fails: want of memory, a disk whose count of faults rose to this, or the essence; else the count stays
abbrev pub HasWalkCause : {T : Type 0} → ℕ → ℕ → Result T WalkFault → Type 0
HasWalkCause before now (Ok file) = now ≡ before
HasWalkCause before now (Err Memory) = now ≡ before
HasWalkCause before now (Err (DiskFault faults)) = (faults ≡ now) × Rose before now
HasWalkCause before now (Err (Damaged at other)) = now ≡ before
