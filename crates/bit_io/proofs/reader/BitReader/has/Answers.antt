use Rattle.std.proofs.Common.{arith}
use Rattle.bit_io.proofs.WindowSteps.{length-left}
use Rattle.bit_io.proofs.reader.BitReader.has.Goals as goal

pub returns : goal.returns
returns c =
    let w = c.self.inside.window in
    let same = length-left c.self.inside.bytes.now w.at w.word w.count c.args.n c.self.invariant.1 c.requires in
    rw (← c.self.view_is) (grind (arith, same, c.from.ensures))
