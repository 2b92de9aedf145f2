use Rattle.std.proofs.Common.{ℕ, List, ◌+◌, ◌∙◌, length, ap, sym}
use Rattle.raw_feed.proofs.KindLemmas.{unit_item_long}
use Rattle.rec_bytes.specs.Views.{view}
use Rattle.raw_feed.specs.declared.kind.Kind.TheVariants.{Units}
use Rattle.raw_feed.proofs.ReadingLemmas.{GivesUnit-of, RefusesItem-of, OnTrue-there}
use Rattle.raw_feed.proofs.reader.FeedReader.read_unit.Goals as goal

pub returns-in-Ok-clause-unit : goal.returns-in-Ok-clause-unit
returns-in-Ok-clause-unit g c =
    GivesUnit-of Units c.args.self.now.stage c.args.self.now c.marker.new.self _ _ _ _ _ _ _ (g.S.Source.told c.marker.new.source) _ c.read_item.new.self
    c.self.view_is (OnTrue-there _ c.if-not-branch.false c.in_ok-marker.ensures.marked) c.requires.kind c.in-Ok.ensures.most c.in-Ok.ensures.within
    (ap (λ (xs : List ℕ). 8 + length xs) c.as_slice.ensures ∙ sym (unit_item_long c.read_item.new.self)) (c.in-Ok.ensures.read (view c.self.inside.config))

pub returns-in-Err-clause-refused : goal.returns-in-Err-clause-refused
returns-in-Err-clause-refused g c =
    RefusesItem-of Units c.args.self.now.stage c.args.self.now c.marker.new.self _ _ _ _ _ _ (g.S.Source.told c.marker.new.source) _ _ c.self.view_is
    (OnTrue-there _ c.if-not-branch.false c.in_ok-marker.ensures.marked) c.requires.kind c.in-Err.ensures.named
    (c.in-Err.ensures.broken (view c.self.inside.config))
