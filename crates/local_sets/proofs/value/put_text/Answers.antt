use Rattle.std.proofs.Common.{◌≡◌, ℕ, get_or, arith, ap, ◌∙◌}
use Rattle.byteorder.specs.Endian.{big_bytes}
use Rattle.rec_bytes.specs.Places.{with_bytes}
use Rattle.local_sets.specs.laws.Writes.{room_for, one_more}
use Rattle.local_sets.proofs.value.put_text.Goals as goal

pub put_short-end-requires : goal.put_short-end-requires
put_short-end-requires c =
    room_for (λ (letter : ℕ). big_bytes 2 letter) 0 c.letters.letter-index c.args.letters.now c.args.out.now c.letters.out c.args.at c.letters.end c.letters-test.true c.requires c.letters.invariant.end (omega (arith, c.letters.auto.out))

pub letters-preserved : goal.letters-preserved
letters-preserved c =
    let letter : c.from.result ≡ get_or c.args.letters.now c.letters.letter-index 0 = c.from.ensures in
    let more = one_more (λ (letter : ℕ). big_bytes 2 letter) 0 c.letters.letter-index c.args.letters.now c.args.out.now c.letters.out c.put_short-end.new.out c.args.at c.letters.end c.put_short-end.result c.letters-test.true c.requires c.letters.invariant.end c.letters.invariant.written c.put_short-end.ensures.end (c.put_short-end.ensures.written ∙ ap (λ (n : ℕ). with_bytes c.letters.out c.letters.end (big_bytes 2 n)) letter) in
    record { end = more.0; written = more.1 }
