use Rattle.std.proofs.Common.{arith}
use Rattle.slice_levels.specs.laws.EntryLaws.{small_lanes}
use Rattle.slice_levels.proofs.lanes.put_blocks.Goals as goal

pub returns-clause-samples : goal.returns-clause-samples
returns-clause-samples c = small_lanes c.loop-lane.lanes 1024 (omega arith) c.loop-lane.invariant.long
    (λ p j p_lt j_lt. c.loop-lane.invariant.samples p j p_lt (omega arith))
