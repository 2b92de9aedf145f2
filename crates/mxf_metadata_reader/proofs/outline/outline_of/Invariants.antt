use Rattle.std.proofs.Common.{◌-◌, length}
use Rattle.mxf_metadata_reader.specs.inner.Places.{Passed}
use Rattle.mxf_metadata_reader.proofs.outline.outline_of.Given as goal

-- up to this place stand these sets
abbrev pub invariant-loop-at : goal.invariant-loop-at
invariant-loop-at l = Passed l.bytes l.start l.at l.sets.items

abbrev pub decreases-loop-at : goal.decreases-loop-at
decreases-loop-at l = length l.bytes - l.at
