use Rattle.std.proofs.Common.{◌≡◌, ◌<◌, ◌-◌, ◌∙◌, take, drop, min, vec_len, arith}
use Rattle.std.proofs.lemmas.Result.{err_from_is_err_and}
use Rattle.std.proofs.lemmas.List.{length-take, length-drop}
use Rattle.raw_feed.proofs.UnitLemmas.{BytesRead-failed, BytesRead-cut, BytesRead-memory, Gathered-more}
use Rattle.raw_feed.proofs.unit.read_bytes.Goals as goal

pub returns-then-not-has_room-clause-broken : goal.returns-then-not-has_room-clause-broken
returns-then-not-has_room-clause-broken g c =
    let k = c.loop-had.bytes.ok in
    let l = length-take c.loop-had.had c.loop-had.bytes.items in
    BytesRead-memory c.args.at c.args.len _ _ (take c.loop-had.had c.loop-had.bytes.items) c.requires.most (omega arith) (omega arith)
    c.loop-had.invariant.gathered

pub returns-in_err-came-clause-broken : goal.returns-in_err-came-clause-broken
returns-in_err-came-clause-broken g c =
    let p = err_from_is_err_and c.from_residual.result c.from_residual.ensures.1 in
    let k = c.loop-had.bytes.ok in
    let o = c.read_more.new.bytes.ok in
    let e = c.read_more.ensures.kept.0 in
    let l = length-take c.loop-had.had c.loop-had.bytes.items in
    let behind = drop c.loop-had.had c.read_more.new.bytes.items in
    let m = length-take (c.min.result - c.loop-had.had) behind in
    let d = length-drop c.loop-had.had c.read_more.new.bytes.items in
    rw (p.1, p.2) (BytesRead-failed c.args.at c.args.len c.loop-had.had (c.min.result - c.loop-had.had) _ _ (g.S.Source.told c.loop-had.source) _
    (take c.loop-had.had c.loop-had.bytes.items) (take (c.min.result - c.loop-had.had) behind) _ (omega arith) (omega arith) (omega arith)
    c.requires.most (omega arith) (omega arith) c.loop-had.invariant.gathered c.in_err-came.ensures.taken)

pub returns-then-came-more-clause-broken : goal.returns-then-came-more-clause-broken
returns-then-came-more-clause-broken g c =
    let k = c.loop-had.bytes.ok in
    let o = c.read_more.new.bytes.ok in
    let e = c.read_more.ensures.kept.0 in
    let l = length-take c.loop-had.had c.loop-had.bytes.items in
    let behind = drop c.loop-had.had c.read_more.new.bytes.items in
    let m = length-take (c.min.result - c.loop-had.had) behind in
    let d = length-drop c.loop-had.had c.read_more.new.bytes.items in
    BytesRead-cut c.args.at c.args.len c.loop-had.had (c.min.result - c.loop-had.had) _ c.in_ok-came.came _ _ (g.S.Source.told c.loop-had.source) _
    (take c.loop-had.had c.loop-had.bytes.items) (take (c.min.result - c.loop-had.had) behind) (omega arith) (omega arith) (omega arith)
    (omega arith) c.requires.most (omega arith) c.if-came-more.true c.in_ok-came.ensures.within
    c.loop-had.invariant.gathered c.in_ok-came.ensures.taken

pub loop-had-preserved : goal.loop-had-preserved
loop-had-preserved g c =
    let k = c.loop-had.bytes.ok in
    let o = c.read_more.new.bytes.ok in
    let e = c.read_more.ensures.kept.0 in
    let len : c.len.result ≡ vec_len c.has_room.new.bytes = c.len.ensures in
    let least : c.min.result ≡ min c.len.result c.args.len = c.min.ensures in
    let room : c.loop-had.had < vec_len c.has_room.new.bytes = c.if-not-has_room.ensures.room in
    let same : vec_len c.read_more.new.bytes ≡ vec_len c.has_room.new.bytes = c.read_more.ensures.kept.0 in
    let most = c.in_ok-came.ensures.most in
    let whole = c.if-came-more.false in
    let within = c.in_ok-came.ensures.within in
    record {
      most = omega arith;
      there = omega arith;
      within = omega arith;
      gathered = Gathered-more _ c.loop-had.had (c.min.result - c.loop-had.had) c.in_ok-came.came _ (g.S.Source.told c.loop-had.source) _
          c.loop-had.bytes.items c.read_more.new.bytes.items (omega arith) (omega arith)
          (c.read_more.ensures.kept.1 ∙ c.if-not-has_room.ensures.kept) c.loop-had.invariant.gathered c.in_ok-came.ensures.taken;
      count = c.in_ok-came.ensures.cause ∙ c.loop-had.invariant.count;
    }
