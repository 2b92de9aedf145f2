use Rattle.std.proofs.Common.{◌-◌, ◌≤◌, length}
use Rattle.rec_bytes.specs.Views.{view}
use Rattle.commit_sidecar.specs.Looks.{HasRead}
use Rattle.commit_sidecar.proofs.file.read_records.Given as goal

-- the records before the place are open
abbrev pub invariant-records : goal.invariant-records
invariant-records l = record {
  read : HasRead l.bytes (view l.config) l.at l.number l.mark;
  within : l.at ≤ length l.bytes;
}

abbrev pub decreases-records : goal.decreases-records
decreases-records l = length l.bytes - l.at
