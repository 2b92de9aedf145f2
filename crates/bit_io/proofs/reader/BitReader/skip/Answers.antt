use Rattle.std.proofs.Common.{◌≡◌, ◌≤◌, ◌++◌, ℕ, List, true, false, length, take, ◌∙◌, ap, sym, arith, refl}
use Rattle.std.proofs.lemmas.List.{length-take-le}
use Rattle.bit_io.specs.inner.Window.{bits_left}
use Rattle.bit_io.proofs.WindowSteps.{length-left, passed_left, passed_loaded}
use Rattle.bit_io.proofs.reader.BitReader.skip.Goals as goal

pub returns-then-from-self-clause-accepted : goal.returns-then-from-self-clause-accepted
returns-then-from-self-clause-accepted c =
    let w = c.self.inside.window in
    let same = length-left c.self.inside.bytes.now w.at w.word w.count c.args.n c.self.invariant.1 c.requires in
    rw (← c.self.view_is) ((λ (e : false ≡ true). cc), (λ h. absurd (omega (arith, same.1 h, c.from.ensures, c.if-from-self.true))))

pub returns-clause-accepted : goal.returns-clause-accepted
returns-clause-accepted c =
    let w = c.self.inside.window in
    let same = length-left c.self.inside.bytes.now w.at w.word w.count c.args.n c.self.invariant.1 c.requires in
    rw (← c.self.view_is) ((λ _. same.0 (omega (arith, c.from.ensures, c.if-from-self.false))), (λ _. refl))

pub refill-self-inside-requires : goal.refill-self-inside-requires
refill-self-inside-requires c =
    let w = c.self.inside.window in
    rw c.from-2.ensures (passed_loaded c.self.inside.bytes.now w.at w.word w.count c.args.n c.self.invariant.0 (omega (arith, c.from.ensures, c.if-from-self.false)))

pub returns-clause-skipped : goal.returns-clause-skipped
returns-clause-skipped c =
    let w = c.self.inside.window in
    let n = c.args.n in
    let bytes = c.self.inside.bytes.now in
    let there : n ≤ w.count = omega (arith, c.from.ensures, c.if-from-self.false) in
    let same = length-left bytes w.at w.word w.count n c.self.invariant.1 c.requires in
    let passed = passed_left bytes w.at w.word w.count n c.self.invariant.0 there in
    let left = rw c.from-2.ensures at c.refill-self-inside.ensures.left in
    let taken : length (take n (bits_left bytes w.at w.word w.count)) ≡ n = length-take-le n (bits_left bytes w.at w.word w.count) (same.0 there) in
    rw (← c.self.view_is) (record {
      left = passed ∙ ap (λ (bs : List ℕ). take n (bits_left bytes w.at w.word w.count) ++ bs) (sym left);
      place = omega (arith, taken, c.from-2.ensures, c.refill-self-inside.ensures.place, c.self.invariant.0.done, there);
    })
