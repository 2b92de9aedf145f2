use Rattle.std.proofs.Common.{◌≡◌, ◌≤◌, ◌∙◌, ◌-◌, length, drop, arith}
use Rattle.std.proofs.lemmas.List.{length-drop, take_rest}
use borrow.Rule.Slice.PartMut.{same_len_mid, post_of}
use Rattle.raw_feed.proofs.PartLemmas.{Filled-more, FillsFrom-end}
use Rattle.raw_feed.proofs.part.read_full.Goals as goal

pub loop-at-preserved : goal.loop-at-preserved
loop-at-preserved g c =
    let at = c.loop-at.at in
    let out = c.loop-at.out in
    let piece = c.read.new.out in
    let long : length piece ≡ length (drop at out) = rw take_rest at c.read.auto.out in
    let most : c.in_ok-came.came ≤ length (drop at out) = rw take_rest at c.in_ok-came.ensures.most in
    record {
      place = omega (arith, same_len_mid at (length out - at) out piece c.read.auto.out, length-drop at out);
      filled =
          Filled-more _ _ _ out piece (post_of at (length out - at) out) at c.in_ok-came.came c.read.result c.in_ok-came.was c.loop-at.invariant.place
          (omega arith) c.loop-at.invariant.filled c.read.ensures.read;
      count = c.in_ok-came.ensures.cause.kept ∙ c.loop-at.invariant.count;
    }

pub returns-then-came-eq0-clause-filled : goal.returns-then-came-eq0-clause-filled
returns-then-came-eq0-clause-filled g c =
    let at = c.loop-at.at in
    let out = c.loop-at.out in
    let piece = c.read.new.out in
    let long : length piece ≡ length (drop at out) = rw take_rest at c.read.auto.out in
    FillsFrom-end _ _ _ out piece (post_of at (length out - at) out) at c.in_ok-came.came c.read.result c.in_ok-came.was c.if-came-eq0.true
    c.loop-at-test.true (omega (arith, length-drop at out)) c.loop-at.invariant.filled c.read.ensures.read
