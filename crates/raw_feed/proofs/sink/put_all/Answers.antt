use Rattle.std.proofs.Common.{◌≤◌, ◌∙◌, length, drop, arith}
use Rattle.std.proofs.lemmas.List.{take_rest, length-drop}
use Rattle.std.proofs.lemmas.Result.{err_from_is_err_and}
use Rattle.raw_feed.proofs.Moves.{Wrote-more, Writes-front}
use Rattle.raw_feed.proofs.sink.put_all.Goals as goal

pub loop-at-preserved : goal.loop-at-preserved
loop-at-preserved g c =
    let most : c.in_ok-taken.taken ≤ length (drop c.loop-at.at c.args.bytes.now) = rw take_rest at c.in_ok-taken.ensures.most in
    record {
      place = omega (arith, length-drop c.loop-at.at c.args.bytes.now);
      wrote = Wrote-more _ _ _ c.args.bytes.now c.loop-at.at c.in_ok-taken.taken c.write.result c.in_ok-taken.was c.loop-at.invariant.wrote
          (rw take_rest at c.write.ensures.written);
      count = c.in_ok-taken.ensures.cause.kept ∙ c.loop-at.invariant.count;
    }

pub returns-in_err-taken-clause-written : goal.returns-in_err-taken-clause-written
returns-in_err-taken-clause-written g c =
    let p = err_from_is_err_and c.from_residual.result c.from_residual.ensures.1 in
    rw p.1 (Writes-front _ _ _ c.args.bytes.now c.loop-at.at c.write.result c.in_err-taken.field-0.0 _ (omega arith) c.in_err-taken.was
    c.loop-at.invariant.wrote
    (rw take_rest at c.write.ensures.written))
