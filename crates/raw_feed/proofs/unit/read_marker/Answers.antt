use Rattle.std.proofs.Common.{arith}
use Rattle.std.proofs.lemmas.Result.{err_from_is_err_and}
use Rattle.raw_feed.proofs.BreakLemmas.{MarkerRead-part, MarkerRead-cut, MarkerRead-wrong, MarkerRead-right}
use Rattle.raw_feed.proofs.ReadingLemmas.{OnTrue-there, OnFalse-there}
use Rattle.raw_feed.proofs.unit.read_marker.Goals as goal

pub returns-in_err-came-clause-marked : goal.returns-in_err-came-clause-marked
returns-in_err-came-clause-marked g c =
    let p = err_from_is_err_and c.from_residual.result c.from_residual.ensures.1 in
    rw (p.1, p.2) (MarkerRead-part c.args.kind c.args.at _ _ c.read_part.new.out _ c.read_part.auto.out c.requires c.in_err-came.ensures.taken)

pub returns-then-came-lt-MARKER_LEN-clause-marked : goal.returns-then-came-lt-MARKER_LEN-clause-marked
returns-then-came-lt-MARKER_LEN-clause-marked g c =
    MarkerRead-cut c.args.kind c.args.at c.in_ok-came.came _ _ c.read_part.new.out c.read_part.auto.out c.in_ok-came.ensures.within (omega arith)
    c.if-came-lt-MARKER_LEN.true c.in_ok-came.ensures.taken

pub returns-then-not-is_marker-clause-marked : goal.returns-then-not-is_marker-clause-marked
returns-then-not-is_marker-clause-marked g c =
    MarkerRead-wrong c.args.kind c.args.at c.in_ok-came.came _ _ c.read_part.new.out c.read_part.auto.out
    (let most = c.in_ok-came.ensures.most in omega (arith, c.read_part.auto.out)) c.in_ok-came.ensures.within
    (OnFalse-there _ c.if-not-is_marker.true c.is_marker.ensures.wrong) c.in_ok-came.ensures.taken

pub returns-clause-marked : goal.returns-clause-marked
returns-clause-marked g c =
    MarkerRead-right c.args.kind c.args.at c.in_ok-came.came _ _ c.read_part.new.out c.read_part.auto.out
    (let most = c.in_ok-came.ensures.most in omega (arith, c.read_part.auto.out)) (OnTrue-there _ c.if-not-is_marker.false c.is_marker.ensures.right)
    c.in_ok-came.ensures.taken
