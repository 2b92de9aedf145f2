use Rattle.std.proofs.Common.{◌≡◌, ◌*◌, length, get_or, arith}
use Rattle.bit_io.specs.Bits.{bits_of, zeros}
use Rattle.bit_io.proofs.ReaderSteps.{bits_of_zero, zero_from_bits}
use Rattle.bit_io.proofs.reader.are_zero.Goals as goal

pub returns-then-byte-ne0 : goal.returns-then-byte-ne0
returns-then-byte-ne0 c =
    let zero : bits_of c.args.bytes.now ≡ zeros (8 * length c.args.bytes.now) → get_or c.args.bytes.now c.loop-byte.byte-index 0 ≡ 0 =
    λ e. zero_from_bits c.args.bytes.now (λ k. omega (arith, c.type_inv.bytes k)) e c.loop-byte.byte-index (omega arith) in
    grind (arith, zero)

pub returns : goal.returns
returns c = let all = bits_of_zero c.args.bytes.now (λ k h. c.loop-byte.invariant k (omega arith)) in grind (arith, all)
