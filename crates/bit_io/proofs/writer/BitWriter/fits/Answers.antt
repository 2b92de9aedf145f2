use Rattle.std.proofs.Common.{rules, ◌≡◌, ◌+◌, ◌*◌, ◌++◌, length, take, refl, arith, true, false}
use Rattle.bit_io.specs.Bits.{bits, bits_of}
use Rattle.bit_io.specs.Written.{bits_put}
use Rattle.bit_io.proofs.WriterSteps.{length-put}
use Rattle.bit_io.proofs.writer.BitWriter.fits.Goals as goal

pub returns-then-free-self-clause-accepted : goal.returns-then-free-self-clause-accepted
unfolding bits_put
returns-then-free-self-clause-accepted c =
    let w = c.args.self.now in
    let size : length (bits_of (take w.at w.out.now) ++ bits w.count w.acc) ≡ 8 * w.at + w.count = length-put w.at w.count w.acc w.out.now (omega (arith, w.within)) in
    ((λ (e : false ≡ true). cc), (λ h. absurd (omega (arith, w.within, c.if-free-self.true))))

pub returns-then-free-self-clause-refused : goal.returns-then-free-self-clause-refused
unfolding bits_put
returns-then-free-self-clause-refused c =
    let w = c.args.self.now in
    let size : length (bits_of (take w.at w.out.now) ++ bits w.count w.acc) ≡ 8 * w.at + w.count = length-put w.at w.count w.acc w.out.now (omega (arith, w.within)) in
    record { need = search rules; room = omega (arith, w.within); short = omega (arith, w.within, c.if-free-self.true) }

pub returns-clause-accepted : goal.returns-clause-accepted
unfolding bits_put
returns-clause-accepted c =
    let w = c.args.self.now in
    let size : length (bits_of (take w.at w.out.now) ++ bits w.count w.acc) ≡ 8 * w.at + w.count = length-put w.at w.count w.acc w.out.now (omega (arith, w.within)) in
    ((λ _. omega (arith, w.within, c.if-free-self.false)), (λ _. refl))
