use Rattle.std.proofs.Common.{◌/◌, ◌^◌, ◌++◌, take, ◌∙◌, ap}
use Rattle.bit_io.specs.Bits.{zeros}
use Rattle.bit_io.specs.Read.{Reading}
use Rattle.bit_io.proofs.WindowSteps.{shown, first_bits}
use Rattle.bit_io.proofs.reader.BitReader.peek.Goals as goal

pub returns-clause-shown : goal.returns-clause-shown
returns-clause-shown c =
    let w = c.self.inside.window in
    shown c.self.inside.bytes.now w.at w.word w.count c.self.invariant.0 c.self.invariant.1
    ∙ ap (λ (r : Reading). take 32 (r.left ++ zeros 32)) c.self.view_is

pub returns-clause-first : goal.returns-clause-first
returns-clause-first c =
    let w = c.self.inside.window in
    let all = shown c.self.inside.bytes.now w.at w.word w.count c.self.invariant.0 c.self.invariant.1
    ∙ ap (λ (r : Reading). take 32 (r.left ++ zeros 32)) c.self.view_is in
    λ n small there. first_bits c.args.self.now.left (w.word / 2 ^ 32) n small there all
