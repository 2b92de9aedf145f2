use Rattle.std.proofs.Common.{arith}
use Rattle.slice_levels.specs.laws.LevelLaws.{short_half_steps}
use Rattle.slice_levels.proofs.half_steps.put_half_steps.Goals as goal

pub returns-clause-short : goal.returns-clause-short
returns-clause-short c =
    let weighing = c.args.weighing.now in
    short_half_steps weighing.scan weighing.weights c.args.blocks.now c.loop-group.out c.requires.samples weighing.large (omega arith)
    (λ b k b_lt k_lt. c.loop-group.invariant b k (omega arith) b_lt k_lt)
