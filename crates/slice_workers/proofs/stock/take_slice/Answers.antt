use Rattle.std.proofs.Common.{rules}
use Rattle.std.proofs.lemmas.List.Elements.{All-set}
use Rattle.rec_bytes.specs.Views.{view}
use Rattle.slice_workers.specs.inner.Hands.{HasPieces}
use Rattle.slice_workers.proofs.stock.take_slice.Goals as goal

pub returns-then-is_some-clause-have : goal.returns-then-is_some-clause-have
returns-then-is_some-clause-have c =
    All-set (HasPieces (view c.args.config.now) c.args.picture.now) c.hands.hands c.hands.k c.hand_over-taken.new.hand c.hand_over-taken.ensures.has c.hands.invariant.have

pub hands-preserved : goal.hands-preserved
hands-preserved c = record {
  have = All-set (HasPieces (view c.args.config.now) c.args.picture.now) c.hands.hands c.hands.k c.hand_over-taken.new.hand c.hand_over-taken.ensures.has c.hands.invariant.have;
  same = search rules;
}
