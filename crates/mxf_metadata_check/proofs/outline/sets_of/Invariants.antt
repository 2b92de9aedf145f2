use Rattle.std.proofs.Common.{◌-◌, length}
use Rattle.mxf_metadata_check.proofs.Sets.{Kept}
use Rattle.mxf_metadata_check.proofs.outline.sets_of.Given as goal

abbrev pub invariant-loop-place : goal.invariant-loop-place
invariant-loop-place l = Kept l.bytes l.start l.at l.place l.sets.items

abbrev pub decreases-loop-place : goal.decreases-loop-place
decreases-loop-place l = length l.bytes - l.place
