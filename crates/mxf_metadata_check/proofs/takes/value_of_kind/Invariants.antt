use Rattle.std.proofs.Common.{◌-◌, length}
use Rattle.mxf_metadata_check.proofs.Taken.{Lacks}
use Rattle.mxf_metadata_check.proofs.takes.value_of_kind.Given as goal

abbrev pub invariant-loop-place : goal.invariant-loop-place
invariant-loop-place l = Lacks l.bytes l.start l.kind l.place

abbrev pub decreases-loop-place : goal.decreases-loop-place
decreases-loop-place l = length l.bytes - l.place
