use Rattle.std.proofs.Common.{◌*◌, arith}
use Rattle.std.proofs.lemmas.Nat.{le_or_l, le_or_r}
use Rattle.slice_parts.specs.inner.Marks.{size_before}
use Rattle.slice_parts.proofs.pairs.put_pair.Goals as goal

pub returns-in-Some-clause-accepted : goal.returns-in-Some-clause-accepted
returns-in-Some-clause-accepted c = λ s is. c.put_short_pair.ensures.accepted c.args.run (size_before c.args.last) s c.requires.row is

pub returns-in-Some-clause-spelled : goal.returns-in-Some-clause-spelled
returns-in-Some-clause-spelled c = λ s is. c.put_short_pair.ensures.spelled c.args.run (size_before c.args.last) s c.requires.row is

pub returns-in_ok-put_large_pair-in_default-clause-spelled : goal.returns-in_ok-put_large_pair-in_default-clause-spelled
returns-in_ok-put_large_pair-in_default-clause-spelled c = λ s is. c.in_ok-put_large_pair-in_default.ensures.spelled s (rw c.size_less_one.ensures.value is)

pub put_short_pair-requires-clause-number : goal.put_short_pair-requires-clause-number
put_short_pair-requires-clause-number c =
    (c.requires.some, omega (arith, c.if-zeros-from-lt16.true, c.from.ensures, le_or_r (2 * c.args.zeros) c.args.number, le_or_r (2 * c.args.zeros) c.from.result))

pub put_short_pair-requires-clause-zeros : goal.put_short_pair-requires-clause-zeros
put_short_pair-requires-clause-zeros c =
    omega (arith, c.if-zeros-from-lt16.true, c.from.ensures, le_or_l (2 * c.args.zeros) c.args.number, le_or_l (2 * c.args.zeros) c.from.result)
