-- When each answer of a command over a take may come (own). docs/FORMATS.md, "Statuses".
use Rattle.std.specs.Prelude.{◌≡◌, ◌≢◌, ◌⊎◌}
use Rattle.rec_bytes.specs.Faults.{Rose}
use Rattle.rec_bytes.specs.declared.status.Status.{Status}
use Rattle.run_parts.specs.Statuses.{answer, memory_answer, sink_answer}
use Rattle.take_commands.specs.Answers.{disk_answer}
use Rattle.take_commands.specs.Views.{Devices}

-- the counts show the cause of an answer 6 and of an answer 7, and rise for no other
pub record HasTakeCauses (before now : Devices) (status : Status) : Type 0 where
  pub answered : (status ≡ answer 0 0 0 0) ⊎ ((status ≡ memory_answer) ⊎ ((status.code ≡ 8) ⊎ ((status.code ≡ 6) ⊎ (status.code ≡ 7))))
  pub disk : status.code ≡ 6 → (status ≡ disk_answer now.disk) × Rose before.disk now.disk
  pub disk_kept : status.code ≢ 6 → now.disk ≡ before.disk
  pub sink : status.code ≡ 7 → (status ≡ sink_answer now.sink) × Rose before.sink now.sink
  pub sink_kept : status.code ≢ 7 → now.sink ≡ before.sink
