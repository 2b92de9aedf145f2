use Rattle.std.proofs.Common.{arith}
use Rattle.std.proofs.lemmas.Result.{err_from_is_err_and}
use Rattle.raw_feed.proofs.BreakLemmas.{LenRead-part, LenRead-cut, LenRead-long, LenRead-ok}
use Rattle.raw_feed.proofs.unit.read_unit_len.Goals as goal

pub returns-in_err-came-clause-spelled : goal.returns-in_err-came-clause-spelled
returns-in_err-came-clause-spelled g c =
    let p = err_from_is_err_and c.from_residual.result c.from_residual.ensures.1 in
    rw (p.1, p.2) (LenRead-part c.args.at _ _ c.read_part.new.out _ c.read_part.auto.out c.requires c.in_err-came.ensures.taken)

pub returns-then-came-lt4-clause-spelled : goal.returns-then-came-lt4-clause-spelled
returns-then-came-lt4-clause-spelled g c =
    LenRead-cut c.args.at c.in_ok-came.came _ _ c.read_part.new.out c.read_part.auto.out c.in_ok-came.ensures.within c.if-came-lt4.true
    c.in_ok-came.ensures.taken

pub returns-then-len-gt-MAX_UNIT-clause-spelled : goal.returns-then-len-gt-MAX_UNIT-clause-spelled
returns-then-len-gt-MAX_UNIT-clause-spelled g c =
    LenRead-long c.args.at c.in_ok-came.came _ _ c.read_part.new.out c.read_part.auto.out
    (let most = c.in_ok-came.ensures.most in omega (arith, c.read_part.auto.out)) c.in_ok-came.ensures.within
    (omega (arith, c.len_of-len.ensures.value, c.if-len-gt-MAX_UNIT.true)) c.in_ok-came.ensures.taken

pub returns-clause-spelled : goal.returns-clause-spelled
returns-clause-spelled g c =
    LenRead-ok c.args.at c.in_ok-came.came _ _ _ c.read_part.new.out c.read_part.auto.out
    (let most = c.in_ok-came.ensures.most in omega (arith, c.read_part.auto.out)) c.len_of-len.ensures.spelled c.in_ok-came.ensures.taken
