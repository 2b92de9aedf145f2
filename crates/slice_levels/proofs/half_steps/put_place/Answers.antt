use Rattle.std.proofs.Common.{arith}
use Rattle.slice_levels.proofs.half_steps.put_place.Goals as goal

pub returns-then-filled-eq8-clause-placed : goal.returns-then-filled-eq8-clause-placed
returns-then-filled-eq8-clause-placed c = λ lane lt. record { value = c.eight_half_steps.ensures.half_steps lane (omega arith) }
