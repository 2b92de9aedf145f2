use Rattle.std.proofs.Common.{◌≡◌, ◌-◌, ◌/◌, ◌^◌, Ok, true, false, ap, arith, refl}
use Rattle.bit_io.specs.Read.{Reads}
use Rattle.bit_io.proofs.ReaderSteps.{reads, read_again, spelled_there}
use Rattle.bit_io.proofs.reader.BitReader.get.Goals as goal

pub returns-in_err-skip-clause-again : goal.returns-in_err-skip-clause-again
returns-in_err-skip-clause-again c =
    λ value rest small e.
    let never : false ≡ true = (c.in_err-skip.ensures).accepted.1 (spelled_there c.args.self.now.left rest c.args.n value e) in
    absurd (cc)

pub returns-clause-read : goal.returns-clause-read
returns-clause-read c =
    rw c.from.ensures (reads c.args.self.now c.skip.new.self c.args.n c.peek.result c.requires (omega arith) ((c.in_ok-skip.ensures).accepted.0 refl) c.peek.ensures.shown (c.in_ok-skip.ensures).skipped)

pub returns-clause-again : goal.returns-clause-again
returns-clause-again c =
    λ value rest small e.
    let read : Reads c.args.self.now c.skip.new.self c.args.n (c.peek.result / 2 ^ (32 - c.args.n)) =
    reads c.args.self.now c.skip.new.self c.args.n c.peek.result c.requires (omega arith) ((c.in_ok-skip.ensures).accepted.0 refl) c.peek.ensures.shown (c.in_ok-skip.ensures).skipped in
    let same = read_again c.args.self.now c.skip.new.self c.args.n (c.peek.result / 2 ^ (32 - c.args.n)) value rest read small e in
    (rw c.from.ensures (ap Ok same.0), same.1)
