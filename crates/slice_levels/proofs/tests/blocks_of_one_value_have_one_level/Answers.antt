use Rattle.std.proofs.Common.{arith}
use Rattle.slice_levels.proofs.LiteralLemmas.{flat_blocks}
use Rattle.slice_levels.proofs.tests.blocks_of_one_value_have_one_level.Goals as goal

pub put_half_steps-requires-clause-samples : goal.put_half_steps-requires-clause-samples
put_half_steps-requires-clause-samples g c = flat_blocks 4 512 1019 1023 (omega arith) (omega arith) (omega arith) (omega arith)
