use Rattle.std.proofs.Common.{rules, ◌^◌, ◌≡◌, ◌+◌, ◌-◌, ◌*◌, ◌/◌, ◌%◌, ◌≤◌, ◌++◌, length, take, refl, arith, true, false}
use Rattle.std.specs.Prelude.{bit_or}
use Rattle.bit_io.specs.Bits.{bits, bits_of}
use Rattle.bit_io.specs.Written.{bits_put}
use Rattle.bit_io.proofs.WriterSteps.{length-put, same_behind, waiting, stored}
use Rattle.bit_io.proofs.writer.BitWriter.put.Goals as goal

pub returns-then-overfills-clause-accepted : goal.returns-then-overfills-clause-accepted
unfolding bits_put
returns-then-overfills-clause-accepted c =
    let w = c.args.self.now in
    let size : length (bits_of (take w.at w.out.now) ++ bits w.count w.acc) ≡ 8 * w.at + w.count = length-put w.at w.count w.acc w.out.now (omega (arith, w.within)) in
    ((λ (e : false ≡ true). cc), (λ h. absurd (omega (arith, w.within, c.from.ensures, c.overfills.ensures.0 c.if-overfills.true))))

pub returns-then-overfills-clause-refused : goal.returns-then-overfills-clause-refused
unfolding bits_put
returns-then-overfills-clause-refused c =
    let w = c.args.self.now in
    let size : length (bits_of (take w.at w.out.now) ++ bits w.count w.acc) ≡ 8 * w.at + w.count = length-put w.at w.count w.acc w.out.now (omega (arith, w.within)) in
    record { need = search rules; room = omega (arith, w.within, c.from.ensures, c.overfills.ensures.0 c.if-overfills.true); short = omega (arith, w.within, c.from.ensures, c.overfills.ensures.0 c.if-overfills.true) }

pub returns-then-count-ge32-clause-accepted : goal.returns-then-count-ge32-clause-accepted
unfolding bits_put
returns-then-count-ge32-clause-accepted c =
    let w = c.args.self.now in
    let size : length (bits_of (take w.at w.out.now) ++ bits w.count w.acc) ≡ 8 * w.at + w.count = length-put w.at w.count w.acc w.out.now (omega (arith, w.within)) in
    ((λ _. omega (arith, w.within, c.from.ensures)), (λ _. refl))

pub returns-else-count-ge32-clause-accepted : goal.returns-else-count-ge32-clause-accepted
unfolding bits_put
returns-else-count-ge32-clause-accepted c =
    let w = c.args.self.now in
    let size : length (bits_of (take w.at w.out.now) ++ bits w.count w.acc) ≡ 8 * w.at + w.count = length-put w.at w.count w.acc w.out.now (omega (arith, w.within)) in
    ((λ _. omega (arith, w.within, c.from.ensures)), (λ _. refl))

pub returns-else-count-ge32-clause-put : goal.returns-else-count-ge32-clause-put
unfolding bits_put
returns-else-count-ge32-clause-put c =
    let w = c.args.self.now in
    record {
      put = rw (c.from.ensures, c.from-2.ensures) (waiting w.at w.count c.args.n w.acc c.args.value w.out.now (omega (arith, c.requires.narrow, w.pending)) c.requires.small);
      size = refl;
      behind = refl;
    }

pub returns-then-count-ge32-clause-put : goal.returns-then-count-ge32-clause-put
unfolding bits_put
returns-then-count-ge32-clause-put c =
    let w = c.args.self.now in
    let n = c.args.n in
    let word = rw (c.from.ensures, c.from-2.ensures) at c.store.ensures.stored in
    let size : length c.store.new.out ≡ length w.out.now = search rules in
    let free : (w.count + n + 7) / 8 ≤ length w.out.now - w.at = omega (arith, c.from.ensures) in
    let full : 32 ≤ w.count + n = omega (arith, c.from.ensures, c.if-count-ge32.true) in
    let long = length-put (w.at + 4) (w.count + c.from.result - 32) (bit_or (w.acc * 2 ^ n % 18446744073709551616) c.from-2.result) c.store.new.out (omega (arith, w.within)) in
    record {
      put = rw (c.from.ensures, c.from-2.ensures) (stored w.at w.count n w.acc c.args.value w.out.now c.store.new.out (omega (arith, c.requires.narrow, w.pending)) full c.requires.small word);
      size = size;
      behind = same_behind (w.at + 4) _ c.store.new.out w.out.now (omega (arith, long)) c.store.ensures.behind;
    }

pub returns-then-count-self-clause-accepted : goal.returns-then-count-self-clause-accepted
unfolding bits_put
returns-then-count-self-clause-accepted c =
    let w = c.args.self.now in
    let size : length (bits_of (take w.at w.out.now) ++ bits w.count w.acc) ≡ 8 * w.at + w.count = length-put w.at w.count w.acc w.out.now (omega (arith, w.within)) in
    ((λ _. omega (arith, w.free, c.from.ensures, c.if-count-self.true)), (λ _. refl))

pub returns-then-count-self-clause-put : goal.returns-then-count-self-clause-put
unfolding bits_put
returns-then-count-self-clause-put c =
    let w = c.args.self.now in
    record {
      put = rw (c.from.ensures, c.from-then-count-self.ensures) (waiting w.at w.count c.args.n w.acc c.args.value w.out.now (omega (arith, c.requires.narrow, w.pending)) c.requires.small);
      size = refl;
      behind = refl;
    }
