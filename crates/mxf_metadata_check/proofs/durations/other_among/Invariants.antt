use Rattle.std.proofs.Common.{◌-◌, length}
use Rattle.mxf_metadata_check.proofs.Sets.{Passes}
use Rattle.mxf_metadata_check.proofs.durations.other_among.Given as goal

abbrev pub invariant-loop-place : goal.invariant-loop-place
invariant-loop-place l = Passes l.bytes l.start l.at l.duration l.place

abbrev pub decreases-loop-place : goal.decreases-loop-place
decreases-loop-place l = length l.bytes - l.place
