-- What is read of a commit file through a window.
use Rattle.std.specs.Prelude.{◌≡◌, ◌≤◌, ◌<◌, ◌⊎◌, ◌+◌, ◌^◌, ℕ, List, length, take, drop, Option}
use Rattle.rec_bytes.specs.Configuration.{Fields}
use Rattle.rec_bytes.specs.Views.{view}
use Rattle.take_core.specs.declared.mark.Mark.{Mark}
use Rattle.commit_sidecar.specs.Looks.{HasRead}
use Rattle.commit_sidecar.specs.Notes.{last_of}
use Rattle.commit_sidecar.specs.Refusals.{Refuses}
use Rattle.commit_sidecar.specs.Says.{Says, gate_place}
use Rattle.commit_sidecar.specs.declared.file.SaidFault.TheVariants as said
use Rattle.commit_sidecar.specs.declared.looks.Look.{Look}
use Rattle.commit_sidecar.specs.declared.looks.Look.TheVariants.{Shut, Open, Broken}
use Rattle.commit_sidecar.specs.declared.note.TheConstants.{RECORD_LEN}
use Rattle.recovery.specs.declared.answer.RecoverFault.{RecoverFault}
use Rattle.recovery.specs.declared.answer.RecoverFault.TheVariants.{Memory, NoTake, Damaged, DiskFault}
use Rattle.recovery.specs.declared.window.TheConstants.{WINDOW_LEN}
use Rattle.recovery.specs.declared.window.Window.{Window}
use Rattle.recovery.specs.declared.window.Commits.{Commits}

-- the buffer holds these bytes of the commits
abbrev pub Shows : Window → List ℕ → List ℕ → Type 0
Shows window bytes commits = take window.held bytes ≡ take window.held (drop window.at commits)

-- a place lies in the window, or at its end, and the window in commits of this length
pub record HasPlace (window : Window) (len at : ℕ) : Type 0 where
  pub from : window.at ≤ at
  pub to : at ≤ window.at + window.held
  pub within : window.at + window.held ≤ len
  pub room : window.held ≤ WINDOW_LEN
  pub small : window.at + window.held < 2 ^ 64

-- the window holds the record at a place, or all up to the end
pub record HasRecord (window : Window) (len at : ℕ) : Type 0 where
  pub place : HasPlace window len at
  pub enough : (at + RECORD_LEN ≤ window.at + window.held) ⊎ (len ≤ window.at + window.held)

-- the commits say what was read of them, and this is the place of the gate that isn't open
pub record SaysUpTo (bytes : List ℕ) (commits : Commits) : Type 0 where
  pub marks : List Mark
  pub says : Says bytes (view commits.config) marks
  pub gate : commits.gate ≡ gate_place (length marks)
  pub mark : commits.mark ≡ last_of marks

-- the refusal is due, if it speaks of the commits
abbrev pub RefusesIn : List ℕ → RecoverFault → Type 0
RefusesIn bytes Memory = Unit {0}
RefusesIn bytes (NoTake at other) = Refuses bytes (said.NoTake at other)
RefusesIn bytes (Damaged at other) = Refuses bytes (said.Damaged at other)
RefusesIn bytes (DiskFault at) = Unit {0}

-- what is seen at a place ends within commits of this length, and so does the window, which has the place behind it
abbrev pub SeesWithin : Window → ℕ → ℕ → Look → Type 0
SeesWithin window len at Shut = (at + 1 ≤ len) × (at + 1 < 2 ^ 64)
SeesWithin window len at (Open mark) = HasPlace window len (at + RECORD_LEN)
SeesWithin window len at Broken = Unit {0}

-- some open records stand before a place, of which the last has a mark
pub record HasReadTo (commits : List ℕ) (cfg : Fields) (at : ℕ) (last : Option Mark) : Type 0 where
  pub number : ℕ
  pub read : HasRead commits cfg at number last
