use Rattle.std.proofs.Common.{arith}
use Rattle.bit_io.proofs.ReaderSteps.{highest_zero, zero_from_highest}
use Rattle.bit_io.proofs.window.is_zero.Goals as goal

pub returns : goal.returns
returns c =
    let there = highest_zero c.args.count c.args.word in
    let back = zero_from_highest c.args.count c.args.word (omega (arith, c.ranges.word)) c.requires.room c.requires.behind in
    grind (arith, there, back)
