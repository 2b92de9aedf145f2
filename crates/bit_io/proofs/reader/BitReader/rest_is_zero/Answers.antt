use Rattle.std.proofs.Common.{arith}
use Rattle.std.proofs.lemmas.List.{take_rest}
use Rattle.bit_io.proofs.ReaderSteps.{left_zero, zero_from_left}
use Rattle.bit_io.proofs.reader.BitReader.rest_is_zero.Goals as goal

pub returns-then-is_zero : goal.returns-then-is_zero
returns-then-is_zero c =
    let w = c.self.inside.window in
    let bytes = c.self.inside.bytes.now in
    let behind = rw take_rest at c.are_zero.ensures in
    let there = left_zero bytes w.at w.word w.count in
    let back = zero_from_left bytes w.at w.word w.count in
    rw (← c.self.view_is) (grind (arith, there, back, behind, c.is_zero.ensures, c.if-is_zero.true))

pub returns-else-is_zero : goal.returns-else-is_zero
returns-else-is_zero c =
    let w = c.self.inside.window in
    let back = zero_from_left c.self.inside.bytes.now w.at w.word w.count in
    rw (← c.self.view_is) (grind (arith, back, c.is_zero.ensures, c.if-is_zero.false))
