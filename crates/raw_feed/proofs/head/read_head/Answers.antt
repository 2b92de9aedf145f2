use Rattle.std.proofs.lemmas.Result.{err_from_is_err_and}
use Rattle.raw_feed.proofs.HeadLemmas.{BreaksHead-part, BreaksHead-cut, BreaksHead-wrong}
use Rattle.raw_feed.proofs.head.read_head.Goals as goal

pub returns-in_err-came-clause-refused : goal.returns-in_err-came-clause-refused
returns-in_err-came-clause-refused g c =
    let p = err_from_is_err_and c.from_residual.result c.from_residual.ensures.1 in
    rw (p.1, p.2) (BreaksHead-part c.args.kind _ _ c.read_part.new.out _ c.read_part.auto.out c.in_err-came.ensures.taken)

pub returns-then-came-lt-FEED_HEAD_LEN-clause-refused : goal.returns-then-came-lt-FEED_HEAD_LEN-clause-refused
returns-then-came-lt-FEED_HEAD_LEN-clause-refused g c =
    BreaksHead-cut c.args.kind c.in_ok-came.came _ _ c.read_part.new.out c.read_part.auto.out c.if-came-lt-FEED_HEAD_LEN.true c.in_ok-came.ensures.taken

pub returns-in-Err-clause-refused : goal.returns-in-Err-clause-refused
returns-in-Err-clause-refused g c =
    BreaksHead-wrong c.args.kind c.in_ok-came.came c.in-Err.at _ _ c.read_part.new.out c.read_part.auto.out c.if-came-lt-FEED_HEAD_LEN.false
    c.in-Err.ensures.refused c.in_ok-came.ensures.taken
