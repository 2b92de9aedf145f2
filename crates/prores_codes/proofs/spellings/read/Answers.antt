use Rattle.std.proofs.Common.{rules, ◌<◌, ◌≤◌, Ok, length, ap, arith, refl}
use Rattle.prores_codes.specs.laws.Lengths.{narrow_code}
use Rattle.prores_codes.specs.Codes.{parameters}
use Rattle.prores_codes.specs.inner.Forms.{many_zeros}
use Rattle.prores_codes.proofs.Parsed.{none_whole, found_not_long, found_again, none_spelled, is_too_long, not_too_many, past_end}
use Rattle.prores_codes.proofs.spellings.read.Goals as goal

pub returns-in-Ok-clause-again : goal.returns-in-Ok-clause-again
returns-in-Ok-clause-again c =
    λ n spelling rest spells e.
    let f = c.in-Some.found in
    let same = found_again (parameters c.args.code) c.peek.result f.size f.number n c.args.bits.now c.skip.new.self spelling rest c.in-Some.ensures.found c.peek.ensures.first (c.in-Ok.ensures.accepted.0 refl) c.in-Ok.ensures.skipped spells e in
    (ap Ok same.0, same.1)

pub returns-in-Err-clause-again : goal.returns-in-Err-clause-again
returns-in-Err-clause-again c =
    λ n spelling rest spells e.
    let f = c.in-Some.found in
    let left = c.args.bits.now.left in
    absurd (none_whole (parameters c.args.code) c.peek.result f.size f.number n left spelling rest c.in-Some.ensures.found c.peek.ensures.first (past_end f.size (length left) c.in-Err.ensures.accepted.1) spells e)

pub returns-in-Err-clause-refused : goal.returns-in-Err-clause-refused
returns-in-Err-clause-refused c =
    let f = c.in-Some.found in
    let left = c.args.bits.now.left in (
      search rules,
      λ long. found_not_long (parameters c.args.code) c.peek.result f.size f.number left c.in-Some.ensures.found c.peek.ensures.first (past_end f.size (length left) c.in-Err.ensures.accepted.1) long,
    )

pub returns-then-has-clause-again : goal.returns-then-has-clause-again
returns-then-has-clause-again c =
    λ n spelling rest spells e.
    absurd (none_spelled (parameters c.args.code) c.peek.result n c.args.bits.now.left spelling rest (narrow_code c.args.code) c.in-None.ensures.none c.peek.ensures.first spells e)

pub returns-then-has-clause-refused : goal.returns-then-has-clause-refused
returns-then-has-clause-refused c =
    let room : many_zeros (parameters c.args.code) ≤ length c.args.bits.now.left = grind (arith, c.has.ensures, c.if-has.true, c.many_zeros.ensures.value) in
    (search rules, is_too_long (parameters c.args.code) c.peek.result c.args.bits.now.left (narrow_code c.args.code) c.in-None.ensures.none c.peek.ensures.first room)

pub returns-else-has-clause-again : goal.returns-else-has-clause-again
returns-else-has-clause-again c =
    λ n spelling rest spells e.
    absurd (none_spelled (parameters c.args.code) c.peek.result n c.args.bits.now.left spelling rest (narrow_code c.args.code) c.in-None.ensures.none c.peek.ensures.first spells e)

pub returns-else-has-clause-refused : goal.returns-else-has-clause-refused
returns-else-has-clause-refused c =
    let room : length c.args.bits.now.left < many_zeros (parameters c.args.code) = grind (arith, c.has.ensures, c.if-has.false, c.many_zeros.ensures.value) in
    (search rules, λ long. not_too_many (parameters c.args.code) c.args.bits.now.left (narrow_code c.args.code) room long)
