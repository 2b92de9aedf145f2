-- What `recover` leaves of a take, writes and answers (own). docs/FORMATS.md, "Lines and samples".
use Rattle.std.specs.Prelude.{◌≡◌, ◌⊎◌, List, ℕ, [], ◌++◌, codes, decimal}
use Rattle.rec_bytes.specs.declared.status.Status.{Status}
use Rattle.take_layout.specs.declared.layout.TakeLayout.{Ghosts}
use Rattle.take_disk.specs.Calls.{IfTold, Steps}
use Rattle.recovery.specs.Recoveries.{Leads, Refuses, ReadsAsBefore, as_read}
use Rattle.recovery.specs.declared.answer.Recovered.{Recovered}
use Rattle.recovery.specs.declared.answer.Recovered.TheVariants.{Closed, Already}
use Rattle.recovery.specs.declared.answer.RecoverFault.{RecoverFault}
use Rattle.run_parts.specs.Gains.{Gains, Lacks}
use Rattle.run_parts.specs.Statuses.{answer, sink_answer}
use Rattle.take_commands.specs.Answers.{recover_answer}
use Rattle.take_commands.specs.Views.{Devices}

-- the line that says how a take was found
abbrev pub recover_line : Recovered → List ℕ
recover_line (Closed count len) = codes "closed " ++ decimal count ++ codes " bytes " ++ decimal len ++ codes "\n"
recover_line (Already count len) = codes "already " ++ decimal count ++ codes " bytes " ++ decimal len ++ codes "\n"

-- all was done and the whole line was written, or the sink failed and lacks a part of it
abbrev pub EndsLine : List ℕ → Devices → Devices → Status → Type 0
EndsLine missing before now status =
    ((status ≡ answer 0 0 0 0) × (missing ≡ [])) ⊎ ((status ≡ sink_answer now.sink) × Lacks before.written missing)

-- the take is closed, where the disk tells what it holds, and the line that says so is written, or a front of it
pub record ClosesTake {L : Type 0} (layout : Ghosts L) (before now : Devices) (status : Status) : Type 0 where
  pub done : Recovered
  pub leads : Steps before.told now.told (λ old new. Leads layout done (as_read old) new)
  pub written : List ℕ
  pub missing : List ℕ
  pub line : recover_line done ≡ written ++ missing
  pub gains : Gains before.written now.written written
  pub ends : EndsLine missing before now status

-- it isn't: nothing is written, and the answer is why; the disk reads as before, unless it has failed
pub record RefusesTake {L : Type 0} (layout : Ghosts L) (before now : Devices) (status : Status) : Type 0 where
  pub fault : RecoverFault
  pub refused : IfTold before.told (λ disk. Refuses layout fault (as_read disk))
  pub unchanged : Steps before.told now.told (ReadsAsBefore fault)
  pub nothing : now.written ≡ before.written
  pub answered : status ≡ recover_answer fault

-- what `recover` does
abbrev pub RunsRecovery : {L : Type 0} → Ghosts L → Devices → Devices → Status → Type 0
RunsRecovery layout before now status = ClosesTake layout before now status ⊎ RefusesTake layout before now status
