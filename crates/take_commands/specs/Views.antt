-- What a command that looks at a take leaves of its devices (own). docs/ARCHITECTURE.md, "The run".
use Rattle.std.specs.Prelude.{◌≡◌, ◌⊎◌, ℕ, List, [], ◌++◌, Option}
use Rattle.rec_bytes.specs.declared.status.Status.{Status}
use Rattle.run_parts.specs.Gains.{Gains, Lacks}
use Rattle.take_disk.specs.Calls.{IfTold}
use Rattle.take_disk.specs.Held.{Disk}

-- what the devices of a command over a take show: what the disk tells, what was written, and how often each has failed
pub record Devices : Type 0 where
  pub told : Option Disk
  pub disk : ℕ
  pub written : Option (List ℕ)
  pub sink : ℕ

-- the devices by what each of them shows
abbrev pub devices : Option Disk → ℕ → Option (List ℕ) → ℕ → Devices
devices told disk written sink = record { told = told; disk = disk; written = written; sink = sink }

-- the answer says that memory was wanted, the disk failed or the sink failed
abbrev pub IsCutShort : Status → Type 0
IsCutShort status = (status.code ≡ 1) ⊎ ((status.code ≡ 6) ⊎ (status.code ≡ 7))

-- a front of what is said of the bytes was written, and the sink lacks the rest
pub record WritesFront (Said : List ℕ → List ℕ → Status → Type 0) (bytes : List ℕ) (before : Option (List ℕ)) (written : List ℕ) : Type 0 where
  pub whole : List ℕ
  pub answered : Status
  pub said : Said bytes whole answered
  pub missing : List ℕ
  pub front : whole ≡ written ++ missing
  pub lacks : Lacks before missing

-- A command over a disk whose essence reads these bytes. It writes and answers what is said of them, unless it is cut short:
-- then it has written nothing, or a front where the sink failed.
pub record ViewsBytes (Said : List ℕ → List ℕ → Status → Type 0) (bytes : List ℕ) (before now : Devices) (status : Status) : Type 0 where
  pub written : List ℕ
  pub gains : Gains before.written now.written written
  pub says : ¬ IsCutShort status → Said bytes written status
  pub cut : status.code ≡ 7 → WritesFront Said bytes before.written written
  pub nothing : (status.code ≡ 1) ⊎ (status.code ≡ 6) → written ≡ []

-- the same where the disk tells what it holds
abbrev pub Views : (List ℕ → List ℕ → Status → Type 0) → Devices → Devices → Status → Type 0
Views Said before now status = IfTold before.told (λ disk. ViewsBytes Said disk.essence.reads before now status)
